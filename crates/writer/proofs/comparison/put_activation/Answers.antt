-- `@`, the digit, `:`, k.
use Rattle.std.proofs.Common.{rules}
use Rattle.rule_text.specs.Written.{reference_text}
use Rattle.buffer.proofs.Puts.{put_then, put_as}
use Rattle.writer.proofs.comparison.put_activation.Goals as goal

pub returns : goal.returns
unfolding reference_text
returns c =
    put_then c.put_byte.ensures
    (put_then (put_as (search (rules, c.from.ensures)) c.put_number.ensures)
    (put_then c.put_byte-2.ensures (put_as (search rules) c.put_integer.ensures)))
