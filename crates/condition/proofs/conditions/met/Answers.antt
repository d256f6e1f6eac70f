-- The comparisons up to the count.
use Rattle.std.proofs.Common.{arith}
use Rattle.std.proofs.lemmas.Grind.{common_steps}
use Rattle.declare.specs.Conditions.{comparisons_of, tests_of, met}
use Rattle.declare.proofs.Chains.{all_mapped}
use Rattle.condition.proofs.conditions.met.Goals as goal

pub returns : goal.returns
unfolding met tests_of comparisons_of
returns c = grind (arith, common_steps, all_mapped)
