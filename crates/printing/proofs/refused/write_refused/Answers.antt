-- The line has room in the local buffer, and is handed on.
use mathlib.Core.Path.{refl, sym}
use native.Mathlib.Omega.{arith}
use borrow.Author.Rules.{rules}
use lib.Seq.{length-take-le}
use Rattle.buffer.proofs.Puts.{puts_within, put_lent}
use Rattle.buffer.proofs.Writes.{hands_on}
use Rattle.printing.proofs.Room.{refused_within}
use Rattle.printing.proofs.refused.write_refused.Goals as goal

pub slice_bounds-bytes-end : goal.slice_bounds-bytes-end
slice_bounds-bytes-end c = puts_within (put_lent c.put_word.ensures (search rules))

pub slice_bounds-write-end : goal.slice_bounds-write-end
slice_bounds-write-end c =
    sym (length-take-le _ _ (puts_within (put_lent c.put_word.ensures (search rules))))

pub returns : goal.returns
returns c =
    hands_on refl (refused_within c.args.text c.args.number c.args.line (omega arith) (omega arith)).most (put_lent c.put_word.ensures (search rules)) c.write.ensures
