-- By the reference.
use Rattle.std.proofs.Common.{rules}
use Rattle.rule_text.specs.Written.{reference_text}
use Rattle.buffer.proofs.Puts.{put_as}
use Rattle.writer.proofs.comparison.put_reference.Goals as goal

pub returns-in-Constant : goal.returns-in-Constant
unfolding reference_text
returns-in-Constant c = rw c.in-Constant.is (put_as (search rules) c.put_integer.ensures)

pub returns-in-Activation : goal.returns-in-Activation
unfolding reference_text
returns-in-Activation c = rw c.in-Activation.is (put_as (search rules) c.put_activation.ensures)
