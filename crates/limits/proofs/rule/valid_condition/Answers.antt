-- The count; then the comparisons up to it.
use Rattle.std.proofs.Common.{arith}
use Rattle.std.proofs.lemmas.Grind.{common_steps}
use Rattle.declare.specs.Conditions.{comparisons_of}
use Rattle.declare.specs.Rules.{valid_condition}
use Rattle.declare.proofs.Chains.{all_listed}
use Rattle.limits.proofs.rule.valid_condition.Goals as goal

pub returns-then-c-le-COMPARISONS : goal.returns-then-c-le-COMPARISONS
unfolding valid_condition comparisons_of
returns-then-c-le-COMPARISONS c = grind (arith, common_steps, all_listed)

pub returns-else-c-le-COMPARISONS : goal.returns-else-c-le-COMPARISONS
unfolding valid_condition
returns-else-c-le-COMPARISONS c = grind (arith, common_steps)
