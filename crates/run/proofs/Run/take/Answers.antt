-- A cause of refusal, or the run with the event.
use Rattle.std.proofs.Common.{rules, arith, ◌≡◌, ◌<◌, sym, length, true}
use borrow.Author.Tests.{leb-true, ltb-true}
use lib.Dec.{ltb}
use Rattle.declare.specs.Limits.{most_events}
use Rattle.declare.specs.Steps.{takes}
use Rattle.run.specs.declared.Run.{Run}
use Rattle.run.specs.Records.{events_of}
use Rattle.run.specs.Calls.{entered}
use Rattle.run.proofs.Guards.{as_checked, call_accepted, call_refused, taken, refuses, accepts}
use Rattle.run.proofs.Horizons.{horizon_taken}
use Rattle.run.proofs.Run.take.Goals as goal

pub returns-in-Err : goal.returns-in-Err
unfolding events_of
returns-in-Err c = refuses c.refused.ensures (call_refused _ _ _ (as_checked c.args.self (takes c.args.event) c.running-running.ensures c.is_valid.ensures c.horizon-horizon.ensures c.in-Err.ensures))

-- the event has a slot
room : (r : Run) → ltb r.count most_events ≡ true → r.count < 256
room r h = ltb-true r.count 256 h

pub offset_bounds-events-n : goal.offset_bounds-events-n
unfolding events_of
offset_bounds-events-n c =
    let low = room c.args.self (taken c.args.self c.args.event (as_checked c.args.self (takes c.args.event) c.running-running.ensures c.is_valid.ensures c.horizon-horizon.ensures c.in_default.ensures)).1 in
    omega (arith, low)

pub bounds-events-n : goal.bounds-events-n
unfolding events_of
bounds-events-n c = room c.args.self (taken c.args.self c.args.event (as_checked c.args.self (takes c.args.event) c.running-running.ensures c.is_valid.ensures c.horizon-horizon.ensures c.in_default.ensures)).1

pub overflow_add-n : goal.overflow_add-n
unfolding events_of
overflow_add-n c =
    let low = room c.args.self (taken c.args.self c.args.event (as_checked c.args.self (takes c.args.event) c.running-running.ensures c.is_valid.ensures c.horizon-horizon.ensures c.in_default.ensures)).1 in
    omega (arith, low)

pub accepted-requires : goal.accepted-requires
unfolding entered events_of
accepted-requires c =
    let r = c.args.self in
    let slots : length r.events ≡ 256 = search rules in
    let t = taken r c.args.event (as_checked c.args.self (takes c.args.event) c.running-running.ensures c.is_valid.ensures c.horizon-horizon.ensures c.in_default.ensures) in
    sym (horizon_taken r _ (omega (arith, room r t.1)) (leb-true _ _ t.0))

pub returns : goal.returns
unfolding entered events_of
returns c = accepts c.args.self c.accepted.ensures (call_accepted _ _ (as_checked c.args.self (takes c.args.event) c.running-running.ensures c.is_valid.ensures c.horizon-horizon.ensures c.in_default.ensures))
