-- The comparisons, then the byte.
use Rattle.buffer.proofs.Puts.{put_then}
use Rattle.writer.proofs.conditions.put_condition_field.Goals as goal

pub returns : goal.returns
returns c = put_then c.put_condition.ensures c.put_byte.ensures
