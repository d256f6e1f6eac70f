-- The loop has followed the events passed: they are well-formed, and their times have not fallen.
use Rattle.std.proofs.Common.{arith, ◌≤◌, take}
use borrow.Author.Tests.{le-leb, lt-leb}
use Rattle.std.proofs.lemmas.List.{take_all}
use Rattle.declare.specs.Events.{no_event}
use Rattle.run.specs.Records.{valid_events}
use Rattle.run.proofs.Checks.{followed_none, followed_again}
use Rattle.run.proofs.record.valid_events.Goals as goal

pub returns-then-count-gt-EVENTS : goal.returns-then-count-gt-EVENTS
unfolding valid_events
returns-then-count-gt-EVENTS c = rw (lt-leb c.args.count 256 c.if-count-gt-EVENTS.true)

pub loop-e-init : goal.loop-e-init
loop-e-init c = followed_none _

pub loop-e-preserved : goal.loop-e-preserved
unfolding no_event
loop-e-preserved c = followed_again c.loop-e.invariant c.loop-e-test.true c.well_formed-in-loop-e.ensures

pub returns : goal.returns
unfolding valid_events
returns c =
    let few : c.args.count ≤ 256 = omega arith in
    rw (le-leb c.args.count 256 few, ← take_all c.loop-e.e-index (take c.args.count c.args.events.now) (omega arith)) c.loop-e.invariant.so_far
