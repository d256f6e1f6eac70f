-- The call close; and a whole cycle judged at once, running or closed.
use Rattle.std.specs.Prelude.{◌≡◌, false, not, List, ℕ, ◌*◌, ◌%◌, ◌≤◌, ◌<◌, get_or}
use Rattle.declare.specs.declared.Event.{Event}
use Rattle.declare.specs.declared.Table.{Table}
use Rattle.declare.specs.declared.Standing.{Standing}
use Rattle.declare.specs.declared.Standing.TheVariants.{Idle}
use Rattle.declare.specs.Limits.{most_events}
use Rattle.declare.specs.Rules.{rule_at, is_overall_rule}
use Rattle.declare.specs.Answers.{Answer, accepted, ◌>>◌, require}
use Rattle.declare.specs.Steps.{closed}
use Rattle.standings.specs.declared.Cell.{Cell}
use Rattle.standings.specs.declared.CountedCells.{CountedCells}
use Rattle.standings.specs.declared.totals.Totals.{Totals}
use Rattle.standings.specs.Places.{idle_cell, idle_cells, idle_overall, changed, changed_overall}
use Rattle.standings.specs.Totals.{row_totals}
use Rattle.judge.specs.Cells.{judged_cells, judged_overall}
use Rattle.run.specs.declared.Run.{Run}
use Rattle.run.specs.Records.{events_of, with_events, with_clock, with_standings, as_closed, counted, valid_run}
use Rattle.run.specs.Start.{idle_run}
use Rattle.run.specs.Calls.{judged_run}

-- "close turns open into ..; other standings it keeps": what the standing of rule k's position i
-- becomes
unfoldable pub closed_at : Table → List Event → ℕ → ℕ → Standing → Standing
closed_at t es k i s = closed (rule_at t k) es i s

unfoldable pub closed_cells : Table → List Event → ℕ → List Cell → List Cell
closed_cells t es n cells = changed (closed_at t es) t.count n cells

-- past the first n events the cells of the rules are idle
abbrev pub IdlePast : Table → ℕ → List Cell → Type 0
IdlePast t n cells =
    (j : ℕ) → j < t.count * most_events → n ≤ j % most_events → (get_or cells j idle_cell).standing ≡ Idle

-- at positions from 1 on, whatever the events, with the totals that count them
pub record ClosedCells (t : Table) (before : List Cell) (begun : List Totals) (next : CountedCells) : Type 0 where
  pub cells : (es : List Event) (n : ℕ) → n ≤ most_events → IdlePast t n before → next.cells ≡ closed_cells t es n before
  pub totals : (n : ℕ) → n ≤ most_events → IdlePast t n before → next.totals ≡ row_totals t.count n next.cells begun

-- and at position 0
unfoldable pub closed_overall : Table → List Event → List Cell → List Cell
closed_overall t es overall = changed_overall (is_overall_rule t) (closed_at t es) overall

unfoldable pub closed_run : Run → Run
closed_run r =
    counted
    (as_closed
    (with_standings r (closed_cells r.table (events_of r) r.count r.cells) (closed_overall r.table (events_of r) r.overall)))

-- "close: 11, 9"
unfoldable pub close_of : Run → Answer Run
close_of r = do
  require (valid_run r) 11
  require (not r.closed) 9
  accepted (closed_run r)

-- the run of a table, the events of a whole cycle and a kept time: each standing is judged once
unfoldable pub running_run : Table → ℕ → List Event → ℕ → Run
running_run t n events clock = judged_run (with_clock (with_events (idle_run t) n events) clock)

-- and the closed one, whose kept time is 0
unfoldable pub finished_run : Table → ℕ → List Event → Run
finished_run t n events =
    counted
    (as_closed
    (with_standings (with_events (idle_run t) n events) (judged_cells false t events n 0 idle_cells) (judged_overall false t events n 0 idle_overall)))
