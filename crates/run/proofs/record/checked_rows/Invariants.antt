use mathlib.Core.Path.{◌≡◌}
use mathlib.Core.Bool.{Bool, true}
use mathlib.Core.List.{List}
use Prim.Native.Nat.{ℕ, ◌≤◌, ◌-◌, ◌+◌, ◌/◌, ◌%◌}
use lib.ListN.{get_or}
use Rattle.declare.specs.declared.Table.{Table}
use Rattle.declare.specs.Lists.{all_below}
use Rattle.declare.specs.Rules.{rule_at}
use Rattle.standings.specs.declared.Cell.{Cell}
use Rattle.standings.specs.Places.{idle_cell}
use Rattle.standings.proofs.Counting.{Counting}
use Rattle.run.specs.Records.{events_judged}
use Rattle.run.proofs.Places.{stands_at}
use Rattle.run.proofs.record.checked_rows.Given as goal

-- the cell at place i may stand there
abbrev pub valid : Bool → Table → ℕ → List Cell → ℕ → Bool
valid closed t count cells i =
    stands_at closed count (events_judged (rule_at t (i / 256 + 1)) count) (i % 256 + 1) (get_or cells i idle_cell).standing

abbrev pub invariant-loop-j : goal.invariant-loop-j
invariant-loop-j l = (l.j ≤ l.end)
    × (true ≡ all_below (valid l.closed l.table l.count l.cells) l.j)
    × Counting l.count l.cells l.initial.totals l.totals l.j

abbrev pub decreases-loop-j : goal.decreases-loop-j
decreases-loop-j l = l.end - l.j
