-- The candidates in the order of the list.
use Rattle.std.proofs.Common.{arith}
use Rattle.std.proofs.lemmas.Grind.{common_steps}
use Rattle.declare.specs.Lists.{any}
use Rattle.declare.specs.Events.{least}
use Rattle.declare.specs.Reachability.{candidates, some_meets}
use Rattle.declare.proofs.Chains.{any_mapped}
use Rattle.condition.proofs.reachability.some_meets.Goals as goal

pub returns-then-meets-2 : goal.returns-then-meets-2
unfolding some_meets candidates any least
returns-then-meets-2 c = grind (arith, common_steps)

pub returns-else-meets-2 : goal.returns-else-meets-2
unfolding some_meets candidates any least
returns-else-meets-2 c = grind (arith, common_steps, any_mapped)
