-- A cause of refusal, or the run with the time.
use Rattle.std.proofs.Common.{sym}
use borrow.Author.Tests.{leb-true}
use Rattle.run.specs.Records.{events_of}
use Rattle.run.specs.Calls.{entered}
use Rattle.run.proofs.Guards.{as_kept, kept, not_kept, noticed, call_accepted, call_refused, refuses, accepts}
use Rattle.run.proofs.Horizons.{horizon_noticed}
use Rattle.run.proofs.Run.notice.Goals as goal

pub returns-in-Err : goal.returns-in-Err
unfolding events_of
returns-in-Err c = refuses c.refused.ensures (call_refused _ _ _ (not_kept _ _ _ (as_kept c.args.self c.args.time c.running-running.ensures c.is_valid.ensures c.horizon-horizon.ensures c.in-Err.ensures)))

pub accepted-requires : goal.accepted-requires
unfolding entered events_of
accepted-requires c =
    let r = c.args.self in
    let k = kept r c.args.time (as_kept c.args.self c.args.time c.running-running.ensures c.is_valid.ensures c.horizon-horizon.ensures c.in-Ok.ensures) in
    rw k.0 (sym (horizon_noticed r _ (leb-true _ _ (noticed r c.args.time k.1))))

pub returns-in-Ok : goal.returns-in-Ok
unfolding entered events_of
returns-in-Ok c =
    let r = c.args.self in
    let k = kept r c.args.time (as_kept c.args.self c.args.time c.running-running.ensures c.is_valid.ensures c.horizon-horizon.ensures c.in-Ok.ensures) in
    accepts r (rw k.0 at c.accepted.ensures) (call_accepted r _ k.1)
