-- `condition::comparisons`: at each turn the whole field gives what its comparisons left give after
-- those held. Those held are in order, so that their number is the count.
use mathlib.Core.Path.{◌≡◌, refl, sym, ◌∙◌, ap}
use mathlib.Core.List.{List, [], ◌∷◌, ◌++◌}
use Prim.Native.Nat.{ℕ, ◌+◌, ◌≤◌, ◌<◌}
use native.Mathlib.Omega.{arith}
use denote.Bor.{Bor}
use lib.ListN.{length, length-append}
use Rattle.std.specs.Prelude.{Option, Some}
use Rattle.declare.specs.Conditions.{comparisons_of}
use Rattle.declare.specs.Refusals.{number_of}
use Rattle.declare.specs.Rules.{no_condition}
use Rattle.declare.specs.Answers.{accepted, answer_of, ◌>>=◌}
use Rattle.line.proofs.Lines.{told}
use Rattle.line.proofs.Fields.{parts}
use Rattle.rule_text.specs.Types.{Condition}
use Rattle.rule_text.specs.Comparisons.{comparison_field}
use Rattle.rule_text.specs.Conditions.{comma, comparisons_after, condition_of, comparisons_field}
use Rattle.rule_text.proofs.Comparisons.{measured, length_le, comma_refused}
use Rattle.rule_text.proofs.Conditions.{comparisons_slots, fields_left, bytes_left, fields_next, bytes_next, after_refused, after_full, after_next}
use Rattle.rule_text.proofs.condition.comparisons.Goals as goal

-- the number of those held
count_is : (c : Condition) → c ≡ condition_of (comparisons_of c) → c.count ≡ length (comparisons_of c)
unfolding condition_of
count_is c h = ap (λ (x : Condition). x.count) h

-- what is left is no longer than the field
within : (field : List ℕ) (rest : Option (Bor (List ℕ))) (part : Bor (List ℕ)) → rest ≡ Some part → bytes_left rest ≤ length field + 1 → length part.now ≤ length field
unfolding bytes_left
within field rest part is size = let h = rw is at size in omega (arith, h)

pub loop-rest-init : goal.loop-rest-init
unfolding no_condition condition_of comparisons_of fields_left bytes_left
loop-rest-init c =
    rw c.no_condition-condition.ensures (record { same = refl; left = refl; size = omega arith })

pub returns-in_err-next : goal.returns-in_err-next
unfolding comparisons_field answer_of fields_left ◌>>=◌
returns-in_err-next c =
    let k = c.args.correlation in
    let part = c.in-Some.part.now in
    let held = comparisons_of c.loop-rest.condition in
    let r = comma_refused (comparison_field k) part _ (sym c.in_err-next.ensures) in
    rw (told _ _ c.from_residual.ensures.1) (sym (rw (c.loop-rest.invariant.left ∙ ap (comparisons_after k held) (ap fields_left c.in-Some.is ∙ parts comma part) ∙ after_refused k held _ _ _ r)))

pub returns-then-condition-ge-COMPARISONS : goal.returns-then-condition-ge-COMPARISONS
unfolding comparisons_field answer_of number_of fields_left ◌>>=◌
returns-then-condition-ge-COMPARISONS c =
    let k = c.args.correlation in
    let part = c.in-Some.part.now in
    let held = comparisons_of c.loop-rest.condition in
    let m = measured (comparison_field k) part c.in_ok-next.next (sym c.in_ok-next.ensures) in
    sym (rw (c.loop-rest.invariant.left ∙ ap (comparisons_after k held) (ap fields_left c.in-Some.is ∙ parts comma part) ∙ after_full k held _ _ _ m.0 (omega (arith, count_is _ c.loop-rest.invariant.same, c.if-condition-ge-COMPARISONS.true))))

pub overflow_add-next : goal.overflow_add-next
unfolding answer_of
overflow_add-next c =
    omega (arith, length_le (comparison_field c.args.correlation) c.in-Some.part.now _ (sym c.in_ok-next.ensures), within _ _ _ c.in-Some.is c.loop-rest.invariant.size, c.well_formed)

pub loop-rest-preserved : goal.loop-rest-preserved
unfolding answer_of fields_left
loop-rest-preserved c =
    let k = c.args.correlation in
    let part = c.in-Some.part.now in
    let held = comparisons_of c.loop-rest.condition in
    let d = c.in_ok-next.next.answer in
    let m = measured (comparison_field k) part c.in_ok-next.next (sym c.in_ok-next.ensures) in
    let l : length held < 4 = omega (arith, count_is _ c.loop-rest.invariant.same, c.if-condition-ge-COMPARISONS.false) in
    let e : comparisons_of c.with-condition.result ≡ held ++ (d ∷ []) = ap comparisons_of c.with-condition.ensures ∙ comparisons_slots (held ++ (d ∷ [])) (rw (length-append held (d ∷ [])) (omega arith)) in
    record {
      same = c.with-condition.ensures ∙ ap condition_of (sym e);
      left = c.loop-rest.invariant.left
          ∙ ap (comparisons_after k held) (ap fields_left c.in-Some.is ∙ fields_next part _ m.1 _ c.get-rest.ensures.lookup)
          ∙ after_next k held _ _ d m.0 l
          ∙ rw e;
      size = omega (arith, bytes_next part _ m.1 _ c.get-rest.ensures.lookup, within _ _ _ c.in-Some.is c.loop-rest.invariant.size);
    }

pub loop-rest-smaller : goal.loop-rest-smaller
unfolding answer_of bytes_left
loop-rest-smaller c =
    let part = c.in-Some.part.now in
    let m = measured (comparison_field c.args.correlation) part c.in_ok-next.next (sym c.in_ok-next.ensures) in
    rw c.in-Some.is (omega (arith, bytes_next part _ m.1 _ c.get-rest.ensures.lookup))

pub returns : goal.returns
unfolding comparisons_field comparisons_after answer_of fields_left ◌>>=◌
returns c =
    let k = c.args.correlation in
    let held = comparisons_of c.loop-rest.condition in
    sym (rw (c.loop-rest.invariant.left ∙ ap (comparisons_after k held) (ap fields_left c.in_default.is)) (ap accepted (sym c.loop-rest.invariant.same)))
