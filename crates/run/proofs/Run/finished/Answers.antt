-- The record of the definition.
use mathlib.Core.Path.{ap, ap₂, ◌∙◌}
use mathlib.Core.Bool.{false}
use mathlib.Core.List.{List}
use Prim.Native.Nat.{ℕ}
use Rattle.declare.specs.declared.Event.{Event}
use Rattle.declare.specs.declared.Table.{Table}
use Rattle.standings.specs.declared.Cell.{Cell}
use Rattle.standings.specs.Totals.{zero_totals}
use Rattle.judge.specs.Cells.{judged_cells, judged_overall}
use Rattle.run.specs.declared.Run.{Run}
use Rattle.run.specs.Records.{with_events, with_standings, as_closed, with_totals, counted}
use Rattle.run.specs.Start.{idle_run}
use Rattle.run.specs.Close.{finished_run}
use Rattle.run.proofs.Stored.{counted_by_lem}
use Rattle.run.proofs.Run.finished.Goals as goal

-- the closed run of these standings, not counted yet
abbrev bare : Table → ℕ → List Event → List Cell → List Cell → Run
bare t n events cells overall = as_closed (with_standings (with_events (idle_run t) n events) cells overall)

pub returns : goal.returns
unfolding idle_run finished_run
returns c =
    let cells = c.judge_cells-judged in
    let idle = c.idle_cells in
    let begun = c.zero_totals-begun in
    let none = c.idle_totals in
    let overall = c.judge_overall-overall in
    let zeros = c.idle_overall in
    let a = c.args in
    let next : Run = bare a.table a.count a.events cells.result.cells overall.result in
    ap (with_totals next) (counted_by_lem next (begun.ensures ∙ ap (zero_totals a.table overall.result) none.ensures) cells.ensures.1)
    ∙ ap₂ (λ (x y : List Cell). counted (bare a.table a.count a.events x y)) (cells.ensures.0 ∙ ap (judged_cells false a.table a.events a.count 0) idle.ensures) (overall.ensures ∙ ap (judged_overall false a.table a.events a.count 0) zeros.ensures)
