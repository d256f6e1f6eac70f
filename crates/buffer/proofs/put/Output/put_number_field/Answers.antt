-- The number, then the byte.
use Rattle.buffer.proofs.Puts.{put_then}
use Rattle.buffer.proofs.put.Output.put_number_field.Goals as goal

pub returns : goal.returns
returns c =
    put_then c.put_number.ensures c.put_byte.ensures
