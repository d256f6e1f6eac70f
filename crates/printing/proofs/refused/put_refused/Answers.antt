-- Four fields, each with the byte that ends it.
use Rattle.std.proofs.Common.{rules}
use Rattle.buffer.proofs.Puts.{put_then, put_as}
use Rattle.buffer.proofs.Lines.{put_line}
use Rattle.printing.specs.Lines.{line_fields}
use Rattle.printing.proofs.refused.put_refused.Goals as goal

pub returns : goal.returns
unfolding line_fields
returns c =
    put_line line_fields _
    (put_then c.put_bytes.ensures
    (put_then (put_then c.put_bytes-2.ensures c.put_byte.ensures)
    (put_then (put_as (search (rules, c.from.ensures)) c.put_number_field.ensures) c.put_number_field-2.ensures)))
