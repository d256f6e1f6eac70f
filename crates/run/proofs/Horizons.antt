-- The horizon, as the slots of the events give it; and the events of a run with one more.
use mathlib.Core.Path.{◌≡◌, refl, sym, ap, ◌∙◌}
use mathlib.Core.Bool.{Bool, true, false}
use mathlib.Core.List.{List, [], ◌∷◌, ◌++◌}
use borrow.Author.Tests.{leb-true, leb-false}
use lib.Dec.{leb}
use Prim.Native.Nat.{ℕ, suc, ◌-◌, max, min, ◌≤◌, ◌<◌}
use native.Mathlib.Numerals.{add-one}
use native.Mathlib.Omega.{arith}
use lib.ListN.{length, get_or, take}
use lib.Seq.{take_all, take-suc, take-suc-set}
use Rattle.declare.specs.declared.Event.{Event}
use Rattle.declare.specs.Events.{last_from, last_time, no_event}
use Rattle.declare.specs.Continuations.{horizon}
use Rattle.declare.specs.Steps.{takes, notices}
use Rattle.declare.proofs.Lists.{last_more}
use Rattle.run.specs.declared.Run.{Run}
use Rattle.run.specs.Records.{events_of, horizon_of}
use Rattle.run.specs.Calls.{entered}

module _ (n : ℕ) (events : List Event) (clock : ℕ) where
  pub horizon_none : n ≡ 0 → horizon (record { events = take n events; clock = clock }) ≡ clock
  unfolding horizon last_time last_from
  horizon_none e = rw e (omega arith)

  pub horizon_last : 0 < n → n ≤ length events → horizon (record { events = take n events; clock = clock }) ≡ max (get_or events (n - 1) no_event).time clock
  unfolding horizon
  horizon_last a b =
      let m : n ≡ suc (n - 1) = omega arith in
      ap (λ (t : ℕ). max t clock)
      (ap (λ (k : ℕ). last_time (take k events)) m
      ∙ ap last_time (take-suc events (n - 1) no_event (omega arith))
      ∙ last_more (take (n - 1) events) (get_or events (n - 1) no_event))

-- no more events than there are slots
pub taken_within : (n : ℕ) (events : List Event) → take (min n (length events)) events ≡ take n events
taken_within n events = go (leb n (length events)) refl
  where
    go : (b : Bool) → leb n (length events) ≡ b → take (min n (length events)) events ≡ take n events
    go true q =
        let l : n ≤ length events = leb-true n (length events) q in
        let e : min n (length events) ≡ n = omega arith in
        rw e refl
    go false q =
        let l : length events < n = leb-false n (length events) q in
        let e : min n (length events) ≡ length events = omega arith in
        rw e (take_all (length events) events (omega arith) ∙ sym (take_all n events (omega arith)))

pub events_entered : (r : Run) (e : Event) → r.count < length r.events → events_of (entered r (takes e)) ≡ events_of r ++ e ∷ []
unfolding events_of entered
events_entered r e room = rw add-one (take-suc-set r.events r.count e room)

module _ (r : Run) where
  entered_clock : (e : Event) → (entered r (takes e)).clock ≡ r.clock
  unfolding entered
  entered_clock e = refl

  -- after an accepted call it is the call's own time
  pub horizon_taken : (e : Event) → r.count < length r.events → horizon_of r ≤ e.time → horizon_of (entered r (takes e)) ≡ e.time
  unfolding horizon
  horizon_taken e room l =
      let last : last_time (events_of (entered r (takes e))) ≡ e.time = ap last_time (events_entered r e room) ∙ last_more (events_of r) e in
      let kept : (entered r (takes e)).clock ≡ r.clock = entered_clock e in
      omega (arith, last, kept, l)

  pub horizon_noticed : (time : ℕ) → horizon_of r ≤ time → horizon_of (entered r (notices time)) ≡ time
  unfolding horizon events_of entered
  horizon_noticed time l = omega (arith, l)
