-- The reading, the operator's byte, what it is compared with.
use Rattle.std.proofs.Common.{rules}
use Rattle.rule_text.specs.Written.{comparison_text}
use Rattle.buffer.proofs.Puts.{put_then, put_as}
use Rattle.writer.proofs.comparison.put_comparison.Goals as goal

pub returns : goal.returns
unfolding comparison_text
returns c =
    put_then (put_as (search (rules, c.from.ensures)) c.put_number.ensures)
    (put_then (rw c.operator_byte.ensures at c.put_byte.ensures) c.put_reference.ensures)
