use mathlib.Core.Bool.{cond}
use Prim.Native.Nat.{◌+◌, ◌-◌, ◌≤◌}
use lib.Dec.{ltb}
use Rattle.declare.proofs.Sweeps.{Swept}
use Rattle.standings.specs.Places.{zero_in}
use Rattle.standings.specs.Totals.{no_totals, with_standing}
use Rattle.standings.proofs.totals.zero_totals.Given as goal

abbrev pub invariant-loop-k : goal.invariant-loop-k
invariant-loop-k l = (l.k ≤ l.rules)
    × Swept (λ i u. cond (ltb i l.table.count) (with_standing no_totals (zero_in l.table l.overall (i + 1))) u) l.initial.totals l.totals l.k

abbrev pub decreases-loop-k : goal.decreases-loop-k
decreases-loop-k l = l.rules - l.k
