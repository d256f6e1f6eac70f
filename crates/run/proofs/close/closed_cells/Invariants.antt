use mathlib.Core.List.{List}
use Prim.Native.Nat.{ℕ, ◌*◌, ◌-◌, ◌≤◌}
use Rattle.declare.specs.declared.Event.{Event}
use Rattle.declare.specs.declared.Table.{Table}
use Rattle.declare.specs.Limits.{most_events}
use Rattle.declare.proofs.Sweeps.{Swept}
use Rattle.standings.specs.declared.Cell.{Cell}
use Rattle.standings.specs.declared.totals.Totals.{Totals}
use Rattle.standings.specs.Places.{changed_cell}
use Rattle.standings.proofs.Counting.{Counting}
use Rattle.run.specs.Close.{closed_at, IdlePast}
use Rattle.run.proofs.close.closed_cells.Given as goal

-- of n events, before place j
pub record Closed (t : Table) (l a : List Cell) (begun now : List Totals) (j n : ℕ) : Type 0 where
  pub cells : (es : List Event) → Swept (changed_cell (closed_at t es) t.count n) l a j
  pub totals : Counting n a begun now j

abbrev pub invariant-loop-j : goal.invariant-loop-j
invariant-loop-j l = (l.j ≤ l.table.count * most_events)
    × ((n : ℕ) → n ≤ most_events → IdlePast l.table n l.initial.cells → Closed l.table l.initial.cells l.cells l.initial.totals l.totals l.j n)

abbrev pub decreases-loop-j : goal.decreases-loop-j
decreases-loop-j l = l.table.count * most_events - l.j
