-- In the range, and every test.
use Rattle.std.proofs.Common.{arith}
use Rattle.std.proofs.lemmas.Grind.{common_steps}
use Rattle.declare.specs.Reachability.{meets}
use Rattle.declare.proofs.Chains.{all_listed}
use Rattle.condition.proofs.reachability.meets.Goals as goal

pub returns-then-in_range : goal.returns-then-in_range
unfolding meets
returns-then-in_range c = grind (arith, common_steps, all_listed)
