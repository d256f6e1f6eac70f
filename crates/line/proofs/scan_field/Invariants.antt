use Prim.Native.Nat.{◌+◌, ◌-◌, ◌≤◌}
use mathlib.Core.Path.{◌≡◌}
use lib.ListN.{length, drop}
use Rattle.number.specs.Reader.{after}
use Rattle.line.specs.Types.{Empty}
use Rattle.line.specs.Fields.{index_of, before}
use Rattle.line.proofs.scan_field.Given as goal

abbrev pub invariant-loop-i : goal.invariant-loop-i
invariant-loop-i l = (l.i ≤ length l.part)
    × (index_of l.separator l.part ≡ l.i + index_of l.separator (drop l.i l.part))
    × (after l.reader (before l.separator (drop l.i l.part)) ≡ after Empty (before l.separator l.part))

abbrev pub decreases-loop-i : goal.decreases-loop-i
decreases-loop-i l = length l.part - l.i
