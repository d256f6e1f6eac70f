-- The word, and four fields, each with the byte that ends it.
use Rattle.buffer.proofs.Puts.{put_then}
use Rattle.buffer.proofs.Lines.{put_line}
use Rattle.printing.specs.Lines.{line_fields}
use Rattle.printing.specs.Report.{total_of}
use Rattle.printing.proofs.rules.put_total.Goals as goal

pub returns : goal.returns
unfolding line_fields total_of
returns c =
    put_line line_fields (total_of c.args.rule c.args.totals)
    (put_then c.put_bytes.ensures
    (put_then c.put_number_field.ensures
    (put_then (rw c.from.ensures at c.put_number_field-2.ensures)
    (put_then (rw c.from-2.ensures at c.put_number_field-3.ensures) (rw c.from-3.ensures at c.put_number_field-4.ensures)))))
