-- Refused if the run is not valid; else its report has room in the local buffer, and is handed on.
use mathlib.Core.Path.{sym, ◌∙◌}
use borrow.Author.Rules.{rules}
use lib.Seq.{length-take-le}
use Rattle.run.proofs.Bounds.{valid_parts}
use Rattle.buffer.proofs.Puts.{puts_within, put_lent}
use Rattle.buffer.proofs.Writes.{refuses, hands_on}
use Rattle.printing.proofs.Room.{report_within}
use Rattle.printing.proofs.write_report.Goals as goal

pub returns-then-not-valid_run : goal.returns-then-not-valid_run
returns-then-not-valid_run c = refuses (sym c.valid_run.ensures ∙ c.if-not-valid_run.true)

pub put_report-requires : goal.put_report-requires
put_report-requires c =
    let p = valid_parts _ (sym c.valid_run.ensures ∙ c.if-not-valid_run.false) in
    (p.rules_fit, p.events_fit)

pub slice_bounds-text-end : goal.slice_bounds-text-end
slice_bounds-text-end c = puts_within (put_lent c.put_report.ensures (search rules))

pub slice_bounds-write-end : goal.slice_bounds-write-end
slice_bounds-write-end c =
    sym (length-take-le _ _ (puts_within (put_lent c.put_report.ensures (search rules))))

pub returns : goal.returns
returns c =
    let v = sym c.valid_run.ensures ∙ c.if-not-valid_run.false in
    hands_on v (report_within _ v).most (put_lent c.put_report.ensures (search rules)) c.write.ensures
