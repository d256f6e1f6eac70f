-- The earliest time is that of the window's opening, or the horizon where that is later; the
-- opening fits 32 bits or is past every event.
use Rattle.std.proofs.Common.{arith}
use Rattle.std.proofs.lemmas.Grind.{common_steps}
use Rattle.declare.specs.Reachability.{soonest, has_room}
use Rattle.condition.proofs.reachability.has_room.Goals as goal

pub returns-in-None : goal.returns-in-None
unfolding has_room soonest
returns-in-None c = grind (arith, common_steps)

pub returns-in-Some : goal.returns-in-Some
unfolding has_room soonest
returns-in-Some c = grind (arith, common_steps)
