-- A row that there is begins at (rule − 1) · 256; past the cells the list's end is idle.
use Rattle.std.proofs.Common.{arith}
use Rattle.std.proofs.lemmas.Grind.{common_steps}
use Rattle.standings.specs.Places.{standing_from, standing_in}
use Rattle.standings.proofs.standing_in.Goals as goal

pub returns : goal.returns
unfolding standing_in standing_from
returns c = grind (arith, common_steps)
