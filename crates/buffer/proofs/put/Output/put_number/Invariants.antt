use mathlib.Core.Path.{◌≡◌}
use mathlib.Core.List.{◌++◌}
use Prim.Native.Nat.{◌+◌, ◌≤◌}
use lib.ListN.{length, drop}
use Rattle.number.specs.Written.{digits_of}
use Rattle.buffer.proofs.put.Output.put_number.Given as goal

abbrev pub invariant-loop-left : goal.invariant-loop-left
invariant-loop-left l = (length l.digits ≡ 10) × (l.first ≤ 9) × (length (digits_of l.left) ≤ l.first + 1) × (digits_of l.n ≡ digits_of l.left ++ drop (l.first + 1) l.digits)

abbrev pub decreases-loop-left : goal.decreases-loop-left
decreases-loop-left l = l.left
