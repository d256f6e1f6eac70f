-- The end, then the byte.
use Rattle.buffer.proofs.Puts.{put_then}
use Rattle.writer.proofs.rule.put_end_field.Goals as goal

pub returns : goal.returns
returns c = put_then c.put_end.ensures c.put_byte.ensures
