-- The record of the definition; with no events its totals are those of position 0.
use mathlib.Core.Path.{◌≡◌, refl, sym, ap₂, ◌∙◌}
use mathlib.Core.Bool.{true}
use mathlib.Core.List.{[]}
use Rattle.declare.specs.declared.Table.{Table}
use Rattle.declare.specs.Slots.{padded, event_slots}
use Rattle.standings.specs.Places.{idle_cells, idle_overall}
use Rattle.standings.specs.Totals.{zero_totals}
use Rattle.standings.proofs.Counting.{rows_none}
use Rattle.judge.specs.Cells.{judged_overall}
use Rattle.run.specs.declared.Run.{Run}
use Rattle.run.specs.Records.{with_standings, counted_totals}
use Rattle.run.specs.Start.{idle_run, new_run}
use Rattle.run.proofs.Stored.{counted_by_lem}
use Rattle.run.proofs.start.new_run.Goals as goal
use Rattle.run.proofs.start.new_run.Goals.{After-judge_overall-overall, After-zero_totals-totals}

-- the run before it is counted
abbrev bare : Table → Run
bare t = with_standings (idle_run t) idle_cells (judged_overall true t (event_slots []) 0 0 idle_overall)

zeros : (c : After-judge_overall-overall) → c.judge_overall-overall.result ≡ (bare c.args.table).overall
unfolding padded
zeros c = rw (c.judge_overall-overall.ensures, c.idle_overall.ensures, c.empty_slot-slot.ensures) refl

totals_are : (c : After-zero_totals-totals) → c.zero_totals-totals.result ≡ counted_totals (bare c.args.table)
unfolding idle_run
totals_are c =
    let t = c.args.table in
    counted_by_lem (bare t) (c.zero_totals-totals.ensures ∙ ap₂ (zero_totals t) (zeros c.before.before) c.idle_totals.ensures) (sym (rows_none t.count idle_cells c.zero_totals-totals.result))

pub returns : goal.returns
unfolding new_run idle_run padded
returns c =
    rw (c.idle_cells.ensures, totals_are c.before, zeros c.before.before.before, c.empty_slot-slot.ensures) refl
