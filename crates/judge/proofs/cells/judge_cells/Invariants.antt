use Prim.Native.Nat.{◌+◌, ◌*◌}
use Rattle.declare.specs.Limits.{most_events}
use Rattle.declare.proofs.Sweeps.{Swept}
use Rattle.standings.specs.Places.{changed_cell}
use Rattle.standings.proofs.Counting.{Counting}
use Rattle.judge.specs.Cells.{judged_at}
use Rattle.judge.proofs.cells.judge_cells.Given as goal

abbrev pub invariant-loop-k : goal.invariant-loop-k
invariant-loop-k l = Swept (changed_cell (judged_at l.running l.fn.table l.cycle l.horizon) l.k-end l.width) l.fn.cells l.cells (l.k * most_events)
    × Counting l.width l.cells l.fn.totals l.totals (l.k * most_events)

abbrev pub invariant-loop-p : goal.invariant-loop-p
invariant-loop-p l = Swept (changed_cell (judged_at l.running l.fn.table l.cycle l.horizon) l.k-end l.width) l.fn.cells l.cells (l.k * most_events + l.p)
    × Counting l.width l.cells l.fn.totals l.totals (l.k * most_events + l.p)
