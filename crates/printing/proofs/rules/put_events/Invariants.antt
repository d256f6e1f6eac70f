use mathlib.Core.Path.{◌≡◌}
use Rattle.standings.specs.Places.{standing_from, with_zero}
use Rattle.standings.specs.Totals.{totals_by}
use Rattle.printing.specs.Report.{event_lines}
use Rattle.printing.proofs.Lines.{PutLines}
use Rattle.printing.proofs.rules.put_events.Given as goal

abbrev pub invariant-loop-p : goal.invariant-loop-p
invariant-loop-p l =
    let s = with_zero l.fn.zero (standing_from l.row 0) in
    record {
      same_reference : l.out.bytes.ghost_name ≡ l.fn.out.bytes.ghost_name;
      put : PutLines (event_lines l.rule s l.p) l.fn.out.bytes.now l.fn.out.at l.out.bytes.now l.out.at;
      counted : l.totals ≡ totals_by s l.p;
    }
