-- What can suit the rule bound to the first time can occur.
use Rattle.condition.proofs.Laws.{bound_can_occur}
use Rattle.judge.proofs.overall.can_occur.Goals as goal

pub returns : goal.returns
returns c =
    rw (c.can_suit.ensures, c.cycle_bound.ensures, c.first_time-first.ensures) (bound_can_occur _ _ _)
