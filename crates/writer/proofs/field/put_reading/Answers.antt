-- By the reading.
use Rattle.std.proofs.Common.{rules}
use Rattle.line.specs.Values.{reading_text}
use Rattle.buffer.proofs.Puts.{put_as}
use Rattle.writer.proofs.field.put_reading.Goals as goal

pub returns-in-None : goal.returns-in-None
unfolding reading_text
returns-in-None c = rw c.in-None.is c.put_byte.ensures

pub returns-in-Some : goal.returns-in-Some
unfolding reading_text
returns-in-Some c = rw c.in-Some.is (put_as (search rules) c.put_integer.ensures)
