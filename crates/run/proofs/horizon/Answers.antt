-- The later of the last event's time, if there is one, and the kept time.
use Rattle.std.proofs.Common.{rules, arith, ◌≡◌, ◌∙◌, ℕ, min, List, length, take, ap, sym}
use Rattle.declare.specs.declared.Event.{Event}
use Rattle.declare.specs.Continuations.{horizon}
use Rattle.declare.specs.Events.{no_event}
use Rattle.run.proofs.Horizons.{horizon_none, horizon_last, taken_within}
use Rattle.run.proofs.horizon.Goals as goal

-- the events in the slots are those taken
in_slots : (n m : ℕ) (events : List Event) (clock : ℕ) → length events ≡ 256 → m ≡ min n 256 → horizon (record { events = take m events; clock = clock }) ≡ horizon (record { events = take n events; clock = clock })
in_slots n m events clock s e =
    let f : m ≡ min n (length events) = omega (arith, e, s) in
    ap (λ (es : List Event). horizon (record { events = es; clock = clock })) (rw f (taken_within n events))

pub returns-then-n-eq0 : goal.returns-then-n-eq0
returns-then-n-eq0 c =
    let a = c.args in
    let slots : length a.events ≡ 256 = search rules in
    sym (horizon_none c.min-n.result a.events a.clock c.if-n-eq0.true) ∙ in_slots a.count c.min-n.result a.events a.clock slots c.min-n.ensures

pub returns : goal.returns
unfolding no_event
returns c =
    let a = c.args in
    let slots : length a.events ≡ 256 = search rules in
    c.max.ensures
    ∙ sym (horizon_last c.min-n.result a.events a.clock (omega arith) (omega (arith, c.min-n.ensures)))
    ∙ in_slots a.count c.min-n.result a.events a.clock slots c.min-n.ensures
