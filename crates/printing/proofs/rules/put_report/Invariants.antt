use mathlib.Core.Path.{◌≡◌}
use Rattle.run.specs.Records.{standing_at}
use Rattle.printing.specs.Report.{lines_up_to, rule_lines}
use Rattle.printing.proofs.Lines.{PutLines}
use Rattle.printing.proofs.rules.put_report.Given as goal

abbrev pub invariant-loop-k : goal.invariant-loop-k
invariant-loop-k l =
    record {
      same_reference : l.out.bytes.ghost_name ≡ l.fn.out.bytes.ghost_name;
      put : PutLines (lines_up_to (λ k. rule_lines k (standing_at l.run k) l.run.count) l.k) l.fn.out.bytes.now l.fn.out.at l.out.bytes.now l.out.at;
    }
