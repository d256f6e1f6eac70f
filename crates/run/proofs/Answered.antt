-- What standing and totals answer for a valid run, and what an answer says of the record.
use mathlib.Core.Path.{◌≡◌, refl, sym, ap, ◌∙◌}
use mathlib.Core.Bool.{Bool, true, false, ◌&&◌, ◌||◌}
use mathlib.Core.List.{List}
use Prim.Native.Nat.{ℕ, zero, suc, ◌≤◌, zero-le}
use native.Mathlib.Omega.{arith}
use lib.Dec.{leb}
use lib.ListN.{length, take, length-take}
use borrow.Author.Tests.{le-leb, leb-true}
use Rattle.declare.specs.declared.Event.{Event}
use Rattle.declare.specs.declared.Standing.{Standing}
use Rattle.declare.specs.declared.Table.{Table}
use Rattle.declare.specs.Rules.{rule_at, is_overall_rule}
use Rattle.declare.specs.Suits.{activation_at}
use Rattle.declare.proofs.Zero.{activation_zero}
use Rattle.declare.specs.Lists.{all}
use Rattle.declare.specs.Limits.{most_events}
use Rattle.declare.specs.Events.{well_formed, non_falling}
use Rattle.declare.specs.Answers.{accepted, ◌>>◌, require}
use Rattle.declare.specs.Steps.{Cycle}
use Rattle.declare.proofs.Answers.{of_of, required, passed}
use Rattle.declare.proofs.Booleans.{and_left, both, or_left, and₂, and₃}
use Rattle.run.specs.declared.Run.{Run}
use Rattle.run.specs.Records.{events_of, standing_at, totals_in, valid_events, valid_run}
use Rattle.run.specs.Queries.{one_of, is_position, standing_of, totals_of}
use Rattle.run.proofs.Bounds.{valid_parts}
use Rattle.run.proofs.Places.{overall_rule}
use Rattle.run.proofs.Stored.{stored_is_counted}

one_of_is : (n k : ℕ) → 1 ≤ k → k ≤ n → one_of n k ≡ true
one_of_is n k a b = both (le-leb 1 k a) (le-leb k n b)

module _ (r : Run) (k : ℕ) where
  pub totals_found : valid_run r ≡ true → 1 ≤ k → k ≤ r.table.count → totals_of r k ≡ accepted (totals_in r k)
  unfolding totals_of
  totals_found v a b =
      passed 11 _ v ∙ passed 10 _ (one_of_is r.table.count k a b) ∙ ap accepted (stored_is_counted r v k a b)

  -- totals answers with the counts
  pub totals_counted : totals_of r k ≡ (require (valid_run r) 11 >> (require (one_of r.table.count k) 10 >> accepted (totals_in r k)))
  unfolding totals_of ◌>>◌ require
  totals_counted = go (valid_run r) refl (one_of r.table.count k) refl
    where
      go : (v : Bool) → valid_run r ≡ v → (o : Bool) → one_of r.table.count k ≡ o → totals_of r k ≡ (require v 11 >> (require o 10 >> accepted (totals_in r k)))
      go false e o f = rw e
      go true e false f = rw (e, f)
      go true e true f =
          let p : (leb 1 k ≡ true) × (leb k r.table.count ≡ true) = and₂ f in
          totals_found e (leb-true 1 k p.0) (leb-true k r.table.count p.1)

  module _ (i : ℕ) where
    pub standing_found : valid_run r ≡ true → 1 ≤ k → k ≤ r.table.count → is_position r.table r.count k i ≡ true → standing_of r k i ≡ accepted (standing_at r k i)
    unfolding standing_of
    standing_found v a b p = passed 11 _ v ∙ passed 10 _ (both (one_of_is r.table.count k a b) p)

    pub standing_is : (s : Standing) → standing_of r k i ≡ accepted s → standing_at r k i ≡ s
    unfolding standing_of
    standing_is s e =
        let v = required (valid_run r) 11 _ s e in
        of_of (required (one_of r.table.count k && is_position r.table r.count k i) 10 _ s v.1).1

-- ---- positions

pub position_within : (t : Table) (n k i : ℕ) → is_position t n k i ≡ true → i ≤ n
unfolding is_position
position_within t n k i p = leb-true i n (and_left (leb i n) (leb 1 i || is_overall_rule t k) p)

-- every event is one
pub position_event : (t : Table) (n k i : ℕ) → 1 ≤ i → i ≤ n → is_position t n k i ≡ true
unfolding is_position
position_event t n k i a b = both (le-leb i n b) (or_left (is_overall_rule t k) (le-leb 1 i a))

-- position 0 is one under a rule about the cycle
pub position_zero : (t : Table) (n k : ℕ) → is_position t n k 0 ≡ is_overall_rule t k
unfolding is_position
position_zero t n k = rw (le-leb 0 n zero-le) refl

-- what is an activation stands at a position
pub position_active : (t : Table) (es : List Event) (k i : ℕ) → k ≤ t.count → i ≤ length es → activation_at (rule_at t k) es i ≡ true → is_position t (length es) k i ≡ true
position_active t es k zero a b act = position_zero t (length es) k ∙ overall_rule t k a ∙ sym (activation_zero (rule_at t k) es) ∙ act
position_active t es k (suc i) a b act = position_event t (length es) k (suc i) (omega arith) b

-- the events of a valid run are a cycle
pub valid_cycle : (r : Run) → valid_run r ≡ true → Cycle (events_of r)
unfolding events_of valid_events
valid_cycle r v =
    let p : (leb r.count most_events ≡ true) × (all well_formed (take r.count r.events) ≡ true) × (non_falling (take r.count r.events) ≡ true) = and₃ (valid_parts r v).events in
    record { formed = p.1; order = p.2; most = rw (length-take r.count r.events) (omega (arith, (valid_parts r v).events_fit)) }
