-- `comparison::comparison`: a digit, an operator and a reference, byte by byte.
use mathlib.Core.Path.{◌≡◌, sym, ◌∙◌}
use native.Mathlib.Omega.{arith}
use lib.ListN.{get_or, drop, length-drop}
use Rattle.declare.specs.Answers.{accepted, answer_of}
use Rattle.line.proofs.Lines.{told}
use Rattle.rule_text.specs.Comparisons.{digit_of, operator_of, reference_field}
use Rattle.rule_text.specs.Reads.{up_to_comma}
use Rattle.rule_text.proofs.Comparisons.{changed, length_le, comparison_no_digit, comparison_no_operator, comparison_part}
use Rattle.rule_text.proofs.comparison.comparison.Goals as goal

pub returns-in_err-reading : goal.returns-in_err-reading
unfolding answer_of
returns-in_err-reading c =
    told _ _ c.from_residual.ensures.1 ∙ sym (comparison_no_digit c.args.correlation c.args.part.now _ (rw (← c.byte_at.ensures, ← c.digit_of.ensures, c.in_err-reading.was)))

pub returns-in_err-operator : goal.returns-in_err-operator
unfolding answer_of
returns-in_err-operator c =
    let s = c.args.part.now in
    let d : digit_of (get_or s 0 0) ≡ accepted c.in_ok-reading.reading = rw (← c.byte_at.ensures) (sym c.in_ok-reading.ensures) in
    told _ _ c.from_residual-in_err-operator.ensures.1 ∙ sym (comparison_no_operator c.args.correlation s _ d _ (rw (← c.byte_at-2.ensures) (sym c.in_err-operator.ensures)))

pub returns-in_err-reference : goal.returns-in_err-reference
unfolding answer_of changed
returns-in_err-reference c =
    let s = c.args.part.now in
    let d : digit_of (get_or s 0 0) ≡ accepted c.in_ok-reading.reading = rw (← c.byte_at.ensures) (sym c.in_ok-reading.ensures) in
    let o : operator_of (get_or s 1 0) ≡ accepted c.in_ok-operator.operator = rw (← c.byte_at-2.ensures) (sym c.in_ok-operator.ensures) in
    told _ _ c.from_residual-in_err-reference.ensures.1 ∙ sym (comparison_part c.args.correlation s _ d _ o ∙ rw (← c.part_from.ensures, ← c.in_err-reference.ensures))

pub overflow_add-result : goal.overflow_add-result
unfolding answer_of
overflow_add-result c =
    let s = c.args.part.now in
    let x : up_to_comma (reference_field c.args.correlation) (drop 2 s) ≡ accepted c.in_ok-reference.reference = rw (← c.part_from.ensures) (sym c.in_ok-reference.ensures) in
    omega (arith, length_le (reference_field c.args.correlation) (drop 2 s) _ x, length-drop 2 s, c.well_formed)

pub returns : goal.returns
unfolding answer_of changed
returns c =
    let s = c.args.part.now in
    let d : digit_of (get_or s 0 0) ≡ accepted c.in_ok-reading.reading = rw (← c.byte_at.ensures) (sym c.in_ok-reading.ensures) in
    let o : operator_of (get_or s 1 0) ≡ accepted c.in_ok-operator.operator = rw (← c.byte_at-2.ensures) (sym c.in_ok-operator.ensures) in
    rw (comparison_part c.args.correlation s _ d _ o, ← c.part_from.ensures, ← c.in_ok-reference.ensures)
