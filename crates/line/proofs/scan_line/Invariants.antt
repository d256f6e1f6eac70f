use Prim.Native.Nat.{◌+◌, ◌-◌, ◌≤◌}
use mathlib.Core.Path.{◌≡◌}
use lib.ListN.{length, drop}
use Rattle.line.specs.Fields.{LF, tab, index_of, before, count_of}
use Rattle.line.proofs.scan_line.Given as goal

abbrev pub invariant-loop-i : goal.invariant-loop-i
invariant-loop-i l = (l.i ≤ length l.text)
    × (l.tabs ≤ l.i)
    × (index_of LF l.text ≡ l.i + index_of LF (drop l.i l.text))
    × (count_of tab (before LF l.text) ≡ l.tabs + count_of tab (before LF (drop l.i l.text)))

abbrev pub decreases-loop-i : goal.decreases-loop-i
decreases-loop-i l = length l.text - l.i
