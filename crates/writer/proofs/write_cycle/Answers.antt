-- Refused if the run is not valid; else its text has room in the local buffer, and is handed on.
use mathlib.Core.Path.{sym, ◌∙◌}
use native.Mathlib.Omega.{arith}
use borrow.Author.Rules.{rules}
use lib.Seq.{length-take-le}
use Rattle.run.specs.Records.{events_of}
use Rattle.run.proofs.Bounds.{valid_parts}
use Rattle.buffer.proofs.Puts.{puts_within, put_lent}
use Rattle.buffer.proofs.Writes.{refuses, hands_on}
use Rattle.writer.proofs.Room.{cycle_room}
use Rattle.writer.proofs.write_cycle.Goals as goal

pub returns-then-not-valid_run : goal.returns-then-not-valid_run
returns-then-not-valid_run c = refuses (sym c.valid_run.ensures ∙ c.if-not-valid_run.true)

pub slice_bounds-events-end : goal.slice_bounds-events-end
slice_bounds-events-end c =
    let fits = (valid_parts _ (sym c.valid_run.ensures ∙ c.if-not-valid_run.false)).events_fit in
    omega (arith, fits)

pub slice_bounds-put_events-end : goal.slice_bounds-put_events-end
slice_bounds-put_events-end c =
    let fits = (valid_parts _ (sym c.valid_run.ensures ∙ c.if-not-valid_run.false)).events_fit in
    sym (length-take-le _ _ (omega (arith, fits)))

pub slice_bounds-text-end : goal.slice_bounds-text-end
slice_bounds-text-end c = puts_within (put_lent c.put_events.ensures (search rules))

pub slice_bounds-write-end : goal.slice_bounds-write-end
slice_bounds-write-end c =
    sym (length-take-le _ _ (puts_within (put_lent c.put_events.ensures (search rules))))

pub returns : goal.returns
unfolding events_of
returns c =
    let v = sym c.valid_run.ensures ∙ c.if-not-valid_run.false in
    hands_on v (cycle_room _ v) (put_lent c.put_events.ensures (search rules)) c.write.ensures
