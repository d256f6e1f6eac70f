-- The line does not pass the buffer's end.
use mathlib.Core.Path.{sym}
use borrow.Author.Rules.{rules}
use lib.Seq.{length-take-le}
use Rattle.buffer.proofs.Puts.{puts_within, put_lent}
use Rattle.files.proofs.print_unread.Goals as goal

pub slice_bounds-line-end : goal.slice_bounds-line-end
slice_bounds-line-end g c = puts_within (put_lent c.put_unread.ensures (search rules))

pub slice_bounds-print-end : goal.slice_bounds-print-end
slice_bounds-print-end g c =
    sym (length-take-le _ _ (puts_within (put_lent c.put_unread.ensures (search rules))))
