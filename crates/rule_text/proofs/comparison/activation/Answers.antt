-- `comparison::activation`: a digit, `:` and k after `@`, byte by byte.
use mathlib.Core.Path.{◌≡◌, sym, ◌∙◌}
use native.Mathlib.Omega.{arith}
use borrow.Author.Tests.{eq-eqb, ne_eqb}
use lib.ListN.{get_or, drop, length-drop}
use Rattle.std.proofs.Common.{rules}
use Rattle.declare.specs.Refusals.{number_of}
use Rattle.declare.specs.Answers.{accepted, answer_of}
use Rattle.line.proofs.Lines.{told}
use Rattle.rule_text.specs.Comparisons.{digit_of, k_field}
use Rattle.rule_text.specs.Reads.{up_to_comma}
use Rattle.rule_text.proofs.Comparisons.{changed, length_le, activation_no_digit, activation_no_colon, activation_part}
use Rattle.rule_text.proofs.comparison.activation.Goals as goal

pub returns-in_err-g : goal.returns-in_err-g
unfolding answer_of
returns-in_err-g c =
    told _ _ c.from_residual.ensures.1 ∙ sym (activation_no_digit c.args.part.now _ (rw (← c.byte_at.ensures, ← c.digit_of.ensures, c.in_err-g.was)))

pub returns-then-byte_at-ne58 : goal.returns-then-byte_at-ne58
unfolding answer_of number_of
returns-then-byte_at-ne58 c =
    let s = c.args.part.now in
    let d : digit_of (get_or s 0 0) ≡ accepted c.in_ok-g.g = rw (← c.byte_at.ensures) (sym c.in_ok-g.ensures) in
    sym (activation_no_colon s _ d (ne_eqb (get_or s 1 0) 58 (rw (← c.byte_at-2.ensures) c.if-byte_at-ne58.true)))

pub returns-in_err-k : goal.returns-in_err-k
unfolding answer_of changed
returns-in_err-k c =
    let s = c.args.part.now in
    let d : digit_of (get_or s 0 0) ≡ accepted c.in_ok-g.g = rw (← c.byte_at.ensures) (sym c.in_ok-g.ensures) in
    let colon = eq-eqb (get_or s 1 0) 58 (sym c.byte_at-2.ensures ∙ c.if-byte_at-ne58.false) in
    told _ _ c.from_residual-in_err-k.ensures.1 ∙ sym (activation_part s _ d colon ∙ rw (← c.part_from.ensures, ← c.in_err-k.ensures))

pub overflow_add-result : goal.overflow_add-result
unfolding answer_of
overflow_add-result c =
    let s = c.args.part.now in
    let k : up_to_comma k_field (drop 2 s) ≡ accepted c.in_ok-k.k = rw (← c.part_from.ensures) (sym c.in_ok-k.ensures) in
    omega (arith, length_le k_field (drop 2 s) _ k, length-drop 2 s, c.well_formed)

pub returns : goal.returns
unfolding answer_of changed
returns c =
    let s = c.args.part.now in
    let d : digit_of (get_or s 0 0) ≡ accepted c.in_ok-g.g = rw (← c.byte_at.ensures) (sym c.in_ok-g.ensures) in
    let colon = eq-eqb (get_or s 1 0) 58 (sym c.byte_at-2.ensures ∙ c.if-byte_at-ne58.false) in
    rw (activation_part s _ d colon, ← c.part_from.ensures, ← c.in_ok-k.ensures) (search rules)
