-- `comparison::reference`: k, or what follows `@` in a correlation.
use mathlib.Core.Path.{◌≡◌, sym, ◌∙◌}
use native.Mathlib.Omega.{arith}
use borrow.Author.Tests.{eq-eqb, ne_eqb}
use lib.ListN.{get_or, drop, length-drop}
use Rattle.std.proofs.Common.{rules}
use Rattle.declare.specs.Refusals.{number_of}
use Rattle.declare.specs.Answers.{accepted, answer_of}
use Rattle.line.proofs.Lines.{told}
use Rattle.rule_text.specs.Comparisons.{activation_field}
use Rattle.rule_text.specs.Reads.{up_to_comma}
use Rattle.rule_text.proofs.Comparisons.{changed, length_le, constant_part, reference_constant, reference_refused, reference_part}
use Rattle.rule_text.proofs.comparison.reference.Goals as goal

pub returns-in_err-k : goal.returns-in_err-k
unfolding answer_of changed
returns-in_err-k c =
    let s = c.args.part.now in
    let other = ne_eqb (get_or s 0 0) 64 (rw (← c.byte_at.ensures) c.if-byte_at-ne64.true) in
    told _ _ c.from_residual.ensures.1 ∙ sym (reference_constant s c.args.correlation other ∙ constant_part s ∙ rw (← c.in_err-k.ensures))

pub returns-then-byte_at-ne64 : goal.returns-then-byte_at-ne64
unfolding answer_of changed
returns-then-byte_at-ne64 c =
    let s = c.args.part.now in
    let other = ne_eqb (get_or s 0 0) 64 (rw (← c.byte_at.ensures) c.if-byte_at-ne64.true) in
    rw (reference_constant s c.args.correlation other, constant_part s, ← c.in_ok-k.ensures) (search rules)

pub returns-then-not-correlation : goal.returns-then-not-correlation
unfolding answer_of number_of
returns-then-not-correlation c =
    let s = c.args.part.now in
    sym (reference_refused s c.args.correlation c.if-not-correlation.true (eq-eqb (get_or s 0 0) 64 (sym c.byte_at.ensures ∙ c.if-byte_at-ne64.false)))

pub returns-in_err-activation : goal.returns-in_err-activation
unfolding answer_of changed
returns-in_err-activation c =
    let s = c.args.part.now in
    let at = eq-eqb (get_or s 0 0) 64 (sym c.byte_at.ensures ∙ c.if-byte_at-ne64.false) in
    told _ _ c.from_residual-in_err-activation.ensures.1 ∙ sym (reference_part s c.args.correlation c.if-not-correlation.false at ∙ rw (← c.part_from.ensures, ← c.in_err-activation.ensures))

pub overflow_add-result : goal.overflow_add-result
unfolding answer_of
overflow_add-result c =
    let s = c.args.part.now in
    let x : up_to_comma activation_field (drop 1 s) ≡ accepted c.in_ok-activation.activation = rw (← c.part_from.ensures) (sym c.in_ok-activation.ensures) in
    omega (arith, length_le activation_field (drop 1 s) _ x, length-drop 1 s, c.well_formed)

pub returns : goal.returns
unfolding answer_of changed
returns c =
    let s = c.args.part.now in
    let at = eq-eqb (get_or s 0 0) 64 (sym c.byte_at.ensures ∙ c.if-byte_at-ne64.false) in
    rw (reference_part s c.args.correlation c.if-not-correlation.false at, ← c.part_from.ensures, ← c.in_ok-activation.ensures)
