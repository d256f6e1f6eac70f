-- Against a blank there is none.
use Rattle.std.proofs.Common.{arith}
use Rattle.std.proofs.lemmas.Grind.{common_steps}
use Rattle.declare.specs.Reachability.{edge_at, edge}
use Rattle.condition.proofs.reachability.edge.Goals as goal

pub returns : goal.returns
unfolding edge edge_at
returns c = grind (arith, common_steps)
