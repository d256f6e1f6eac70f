-- By the answer; what absorbing is refused with follows.
use Rattle.std.proofs.Common.{refl}
use Rattle.tally.proofs.Sums.{absorbs, absorbs_none, absorb_causes}
use Rattle.tally.proofs.absorbed.Goals as goal

pub returns-in-Ok-clause-absorbs : goal.returns-in-Ok-clause-absorbs
returns-in-Ok-clause-absorbs c = absorbs c.in-Ok.ensures

pub returns-in-Ok-clause-causes : goal.returns-in-Ok-clause-causes
returns-in-Ok-clause-causes c = absorb_causes (absorbs c.in-Ok.ensures)

pub returns-in-Err-clause-absorbs : goal.returns-in-Err-clause-absorbs
returns-in-Err-clause-absorbs c = absorbs_none refl c.in-Err.ensures

pub returns-in-Err-clause-causes : goal.returns-in-Err-clause-causes
returns-in-Err-clause-causes c = absorb_causes (absorbs_none refl c.in-Err.ensures)
