-- The causes in their order.
use Rattle.std.proofs.Common.{arith}
use Rattle.std.proofs.lemmas.Grind.{common_steps}
use Rattle.declare.specs.Answers.{answer_of, ◌>>◌, require}
use Rattle.declare.specs.Refusals.{number_of}
use Rattle.run.specs.Calls.{ready}
use Rattle.run.proofs.running.Goals as goal

pub returns-then-not-valid : goal.returns-then-not-valid
unfolding ready answer_of ◌>>◌ require number_of
returns-then-not-valid c = grind (arith, common_steps)

pub returns-then-closed : goal.returns-then-closed
unfolding ready answer_of ◌>>◌ require number_of
returns-then-closed c = grind (arith, common_steps)

pub returns : goal.returns
unfolding ready answer_of ◌>>◌ require
returns c = grind (arith, common_steps)
