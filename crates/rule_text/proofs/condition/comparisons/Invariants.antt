use mathlib.Core.Path.{◌≡◌}
use mathlib.Core.List.{[]}
use Prim.Native.Nat.{◌+◌, ◌≤◌}
use lib.ListN.{length}
use Rattle.declare.specs.Conditions.{comparisons_of}
use Rattle.line.specs.Fields.{split}
use Rattle.rule_text.specs.Conditions.{comma, comparisons_after, condition_of}
use Rattle.rule_text.proofs.Conditions.{fields_left, bytes_left}
use Rattle.rule_text.proofs.condition.comparisons.Given as goal

abbrev pub invariant-loop-rest : goal.invariant-loop-rest
invariant-loop-rest l =
    record {
      same : l.condition ≡ condition_of (comparisons_of l.condition);
      left : comparisons_after l.correlation [] (split comma l.field) ≡ comparisons_after l.correlation (comparisons_of l.condition) (fields_left l.rest);
      size : bytes_left l.rest ≤ length l.field + 1;
    }

abbrev pub decreases-loop-rest : goal.decreases-loop-rest
decreases-loop-rest l = bytes_left l.rest
