use Rattle.run.proofs.Checks.{Followed}
use Rattle.run.proofs.record.valid_events.Given as goal

abbrev pub invariant-loop-e : goal.invariant-loop-e
invariant-loop-e l = Followed l.e-items l.e-index l.valid l.last
