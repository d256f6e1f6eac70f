-- An invalid table, or the run for the table.
use Rattle.std.proofs.Common.{arith}
use Rattle.std.proofs.lemmas.Grind.{common_steps}
use Rattle.declare.specs.Refusals.{number_of}
use Rattle.declare.specs.Answers.{◌>>◌, require, after_call}
use Rattle.run.specs.Answers.{run_answer}
use Rattle.run.specs.Start.{start_of, started}
use Rattle.run.proofs.Run.start.Goals as goal

pub returns-then-not-valid_table : goal.returns-then-not-valid_table
unfolding start_of started ◌>>◌ require after_call run_answer number_of
returns-then-not-valid_table c = grind (arith, common_steps)

pub returns : goal.returns
unfolding start_of started ◌>>◌ require after_call run_answer
returns c = grind (arith, common_steps)
