-- The cell of a rule about the cycle; any other rule is idle, and so is one past the cells.
use Rattle.std.proofs.Common.{arith}
use Rattle.std.proofs.lemmas.Grind.{common_steps}
use Rattle.standings.specs.Places.{overall_in, zero_in}
use Rattle.standings.proofs.zero_in.Goals as goal

pub returns-then-not-is_overall_rule : goal.returns-then-not-is_overall_rule
unfolding zero_in
returns-then-not-is_overall_rule c = grind (arith, common_steps)

pub returns : goal.returns
unfolding zero_in overall_in
returns c = grind (arith, common_steps)
