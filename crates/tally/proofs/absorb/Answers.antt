-- By the answer; what absorbing is refused with follows.
use Rattle.std.proofs.Common.{rules}
use Rattle.tally.proofs.Sums.{absorbs, absorbs_none, absorb_causes}
use Rattle.tally.proofs.absorb.Goals as goal

pub returns-in_err-tally-clause-absorbs : goal.returns-in_err-tally-clause-absorbs
returns-in_err-tally-clause-absorbs c = absorbs_none (search rules) c.in_err-tally.ensures

pub returns-in_err-tally-clause-causes : goal.returns-in_err-tally-clause-causes
returns-in_err-tally-clause-causes c = absorb_causes (absorbs_none (search rules) c.in_err-tally.ensures)

pub returns-clause-absorbs : goal.returns-clause-absorbs
returns-clause-absorbs c = absorbs c.in_ok-tally.ensures

pub returns-clause-causes : goal.returns-clause-causes
returns-clause-causes c = absorb_causes (absorbs c.in_ok-tally.ensures)
