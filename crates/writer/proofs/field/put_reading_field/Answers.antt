-- The reading, then the byte.
use Rattle.buffer.proofs.Puts.{put_then}
use Rattle.writer.proofs.field.put_reading_field.Goals as goal

pub returns : goal.returns
returns c = put_then c.put_reading.ensures c.put_byte.ensures
