-- The comma, then the comparison.
use Rattle.buffer.proofs.Puts.{put_then}
use Rattle.writer.proofs.conditions.put_next.Goals as goal

pub returns : goal.returns
returns c = put_then c.put_byte.ensures c.put_comparison.ensures
