-- The causes in their order, then position 0, or the cell at the place.
use Rattle.std.proofs.Common.{arith}
use Rattle.std.proofs.lemmas.Grind.{common_steps}
use Rattle.declare.specs.Answers.{answer_of, ◌>>◌, require}
use Rattle.declare.specs.Refusals.{number_of}
use Rattle.standings.specs.Places.{with_zero}
use Rattle.run.specs.Queries.{standing_of}
use Rattle.run.proofs.Run.standing.Goals as goal

pub returns-then-not-is_valid : goal.returns-then-not-is_valid
unfolding answer_of standing_of ◌>>◌ require number_of
returns-then-not-is_valid c = grind (arith, common_steps)

pub returns-then-not-one_of-is_position : goal.returns-then-not-one_of-is_position
unfolding answer_of standing_of ◌>>◌ require number_of
returns-then-not-one_of-is_position c = grind (arith, common_steps)

pub returns-then-position-eq0 : goal.returns-then-position-eq0
unfolding answer_of standing_of ◌>>◌ require with_zero
returns-then-position-eq0 c = grind (arith, common_steps)

pub returns : goal.returns
unfolding answer_of standing_of ◌>>◌ require with_zero
returns c = grind (arith, common_steps)
