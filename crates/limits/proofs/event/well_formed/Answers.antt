-- Time, activity and four readings, as the definition asks.
use Rattle.std.proofs.Common.{arith}
use Rattle.std.proofs.lemmas.Grind.{common_steps}
use Rattle.declare.specs.Lists.{all}
use Rattle.declare.specs.Events.{readings_in_range, well_formed}
use Rattle.limits.proofs.event.well_formed.Goals as goal

pub returns : goal.returns
unfolding all readings_in_range well_formed
returns c = grind (arith, common_steps)
