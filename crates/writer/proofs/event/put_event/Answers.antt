-- Six fields, each with the byte that ends it.
use Rattle.cycle_text.specs.Written.{event_fields}
use Rattle.buffer.proofs.Puts.{put_then}
use Rattle.buffer.proofs.Lines.{put_line}
use Rattle.writer.proofs.event.put_event.Goals as goal

pub returns : goal.returns
unfolding event_fields
returns c =
    put_line event_fields c.args.e
    (put_then c.put_number_field.ensures
    (put_then c.put_byte_field.ensures
    (put_then c.put_reading_field.ensures
    (put_then c.put_reading_field-2.ensures (put_then c.put_reading_field-3.ensures c.put_reading_field-4.ensures)))))
