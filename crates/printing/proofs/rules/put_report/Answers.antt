-- Rule by rule: position 0, then the events and the totals.
use mathlib.Core.Path.{◌≡◌, refl, ◌∙◌}
use Prim.Native.Nat.{◌+◌, ◌*◌}
use native.Mathlib.Omega.{arith}
use borrow.Author.Rules.{rules}
use Rattle.standings.specs.Places.{with_zero}
use Rattle.printing.specs.Report.{report_lines, report_of}
use Rattle.printing.proofs.Lines.{put_none, put_next, zero_first, row_put, row_lines}
use Rattle.printing.proofs.rules.put_report.Goals as goal

pub loop-k-init : goal.loop-k-init
loop-k-init c = record { same_reference = refl; put = put_none _ _ _ }

pub loop-k-preserved : goal.loop-k-preserved
unfolding with_zero
loop-k-preserved c =
    let k = c.loop-k.k in
    let run = c.args.run.now in
    let events = row_put (k + 1) c.zero_in-zero.result run.cells (k * 256) run.count (search rules) c.put_events.ensures.puts in
    let put = zero_first _ _ _ c.put_position.ensures.puts events in
    record {
      same_reference = c.put_events.ensures.same_reference ∙ c.put_position.ensures.same_reference ∙ c.loop-k.invariant.same_reference;
      put = put_next _ k c.loop-k.invariant.put (row_lines _ _ _ k (rw c.zero_in-zero.ensures at put));
    }

pub returns : goal.returns
unfolding report_of report_lines
returns c =
    let all : c.loop-k.k ≡ c.args.run.now.table.count = omega arith in
    record { same_reference = c.loop-k.invariant.same_reference; puts = rw all at c.loop-k.invariant.put }
