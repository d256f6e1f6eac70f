-- A blank is in the range; a number is compared with both ends.
use Rattle.std.proofs.Common.{arith}
use Rattle.std.proofs.lemmas.Grind.{common_steps}
use Rattle.declare.specs.Events.{least, greatest, in_range}
use Rattle.condition.proofs.reachability.in_range.Goals as goal

pub returns : goal.returns
unfolding in_range least greatest
returns c = grind (arith, common_steps)
