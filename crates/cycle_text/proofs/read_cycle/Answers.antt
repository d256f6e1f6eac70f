-- `cycle_text::read_cycle`: the turns of `line/proofs/Turns`; beside them the last event's time is
-- kept.
use mathlib.Core.Path.{refl, sym, ◌∙◌, ap₂}
use mathlib.Core.List.{List}
use native.Mathlib.Omega.{arith}
use Prim.Native.Nat.{ℕ, ◌<◌}
use lib.ListN.{take}
use Rattle.declare.specs.Limits.{most_events}
use Rattle.declare.specs.Events.{last_time, last_from}
use Rattle.declare.specs.Answers.{answer_of, ◌>>=◌}
use Rattle.declare.proofs.Filled.{filled_values}
use Rattle.line.specs.Texts.{records_read}
use Rattle.std.proofs.lemmas.Result.{err_from_is_err_and}
use Rattle.line.proofs.Turns.{first_turn, turn_count, last_turn, turn_refused, turn_less, turn_taken}
use Rattle.cycle_text.specs.Types.{Event, Events}
use Rattle.cycle_text.specs.Cycle.{event_after, cycle_text_of}
use Rattle.cycle_text.specs.Reads.{below, events_in, slots_of}
use Rattle.cycle_text.proofs.Turns.{Passed, passed_lem, in_order_lem, last_taken}
use Rattle.line.proofs.Texts.{line_refused, line_accepted}
use Rattle.cycle_text.proofs.read_cycle.Goals as goal
use Rattle.cycle_text.proofs.read_cycle.Goals.{In_ok-event}

pub loop-rest-init : goal.loop-rest-init
unfolding last_time last_from
loop-rest-init c = record { turn = rw c.empty_slot-events.ensures (first_turn _ _ _ _ _); last = refl }

pub returns-in_err-event : goal.returns-in_err-event
unfolding cycle_text_of event_after below
returns-in_err-event c =
    let t = c.loop-rest.invariant.turn in
    let o = c.in_order.ensures (take c.loop-rest.count c.loop-rest.events) c.loop-rest.invariant.last (sym (turn_count t)) in
    let p = err_from_is_err_and c.from_residual.result c.from_residual.ensures.1 in
    rw (p.1, p.2) (record {
      records = line_refused events_in c.in_order.result _ _ _ (sym c.in_err-event.ensures) (λ n e. turn_refused t (sym c.loop-rest-test.ensures) c.cycle_line-line.ensures.answer_value (sym o ∙ e));
      slots = tt;
    })

passed : (c : In_ok-event) → Passed (take c.loop-rest.count c.loop-rest.events) (answer_of c.cycle_line-line.result.answer) c.in_ok-event.event
passed c =
    let o = c.in_order.ensures (take c.loop-rest.count c.loop-rest.events) c.loop-rest.invariant.last (sym (turn_count c.loop-rest.invariant.turn)) in
    passed_lem _ _ _ (sym o ∙ line_accepted c.in_order.result _ _ (sym c.in_ok-event.ensures))

pub bounds-events-count : goal.bounds-events-count
bounds-events-count c = omega (arith, (passed c).room, turn_count c.loop-rest.invariant.turn)

pub loop-rest-preserved : goal.loop-rest-preserved
unfolding ◌>>=◌
loop-rest-preserved c =
    let above = take c.loop-rest.count c.loop-rest.events in
    let t = c.loop-rest.invariant.turn in
    let e = c.in_ok-event.event in
    let line = c.cycle_line-line.ensures in
    let o = c.in_order.ensures above c.loop-rest.invariant.last (sym (turn_count t)) in
    let p = passed_lem above _ e (sym o ∙ line_accepted c.in_order.result _ _ (sym c.in_ok-event.ensures)) in
    let m : c.loop-rest.count < most_events = omega (arith, p.room, turn_count t) in
    record {
      turn = rw c.part_from-rest.ensures (turn_taken t (sym c.loop-rest-test.ensures) line.answer_value e _ (rw p.line (in_order_lem above e p.order p.room)) m line.next_value);
      last = rw (filled_values _ _ _ _ t.filled e m) (sym (last_taken above e));
    }

pub loop-rest-smaller : goal.loop-rest-smaller
loop-rest-smaller c =
    rw c.part_from-rest.ensures (turn_less c.loop-rest.rest.now _ (sym c.loop-rest-test.ensures) c.cycle_line-line.ensures.next_value)

slotted : ℕ → List Event → Events
slotted count events = record { count = count; events = events }

pub returns : goal.returns
unfolding cycle_text_of event_after records_read events_in slots_of slotted
returns c =
    let t = c.loop-rest.invariant.turn in
    record { records = sym (last_turn t (sym c.loop-rest-test.ensures)); slots = ap₂ slotted (sym (turn_count t)) t.filled.same }
