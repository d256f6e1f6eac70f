-- The record of the definition.
use Rattle.std.proofs.Common.{Ok}
use mathlib.Core.Path.{ap, ap₂, ◌∙◌}
use mathlib.Core.Bool.{true}
use mathlib.Core.List.{List}
use Prim.Native.Nat.{ℕ}
use Rattle.standings.specs.declared.Cell.{Cell}
use Rattle.judge.specs.Cells.{judged_cells, judged_overall}
use Rattle.run.specs.declared.Run.{Run}
use Rattle.run.specs.Records.{events_of, with_events, with_clock, with_standings, with_totals, counted}
use Rattle.run.specs.Calls.{judged_run}
use Rattle.run.proofs.Stored.{counted_by_lem}
use Rattle.run.proofs.Run.accepted.Goals as goal

pub returns : goal.returns
unfolding judged_run events_of
returns c =
    let cells = c.judge_cells-next in
    let begun = c.zero_totals-begun in
    let overall = c.judge_overall-overall in
    let a = c.args in
    let r : Run = with_clock (with_events a.self a.count a.events) a.clock in
    let next : Run = with_standings r cells.result.cells overall.result in
    ap (λ (run : Run). record { outcome = Ok tt; run = run })
    (ap (with_totals next) (counted_by_lem next begun.ensures cells.ensures.1)
    ∙ ap₂ (λ (x y : List Cell). counted (with_standings r x y)) (cells.ensures.0 ∙ ap (λ (h : ℕ). judged_cells true r.table r.events r.count h r.cells) c.requires)
    (overall.ensures ∙ ap (λ (h : ℕ). judged_overall true r.table r.events r.count h r.overall) c.requires))
