-- The count; then the rules up to it.
use Rattle.std.proofs.Common.{arith}
use Rattle.std.proofs.lemmas.Grind.{common_steps}
use Rattle.declare.specs.Rules.{rules_of, valid_table}
use Rattle.declare.proofs.Chains.{all_listed}
use Rattle.limits.proofs.table.valid_table.Goals as goal

pub returns-then-table-le-RULES : goal.returns-then-table-le-RULES
unfolding valid_table rules_of
returns-then-table-le-RULES c = grind (arith, common_steps, all_listed)

pub returns-else-table-le-RULES : goal.returns-else-table-le-RULES
unfolding valid_table
returns-else-table-le-RULES c = grind (arith, common_steps)
