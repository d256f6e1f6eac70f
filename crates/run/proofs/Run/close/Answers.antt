-- The causes in their order, then the run closed.
use Rattle.std.proofs.Common.{arith, ◌≡◌, ap, ap₂, ◌∙◌, ℕ, List, min, Ok, Bool}
use Rattle.declare.specs.Limits.{most_events}
use Rattle.standings.specs.declared.Cell.{Cell}
use Rattle.standings.specs.Totals.{row_totals}
use Rattle.run.specs.declared.Run.{Run}
use Rattle.run.specs.Records.{events_of, with_standings, as_closed, with_totals, counted}
use Rattle.run.specs.Calls.{ready}
use Rattle.run.specs.Close.{closed_run}
use Rattle.run.proofs.Bounds.{valid_parts}
use Rattle.run.proofs.Closing.{closes_overall}
use Rattle.run.proofs.Guards.{is_running, closes, closes_not, refuses, accepts}
use Rattle.run.proofs.Stored.{counted_by_lem}
use Rattle.run.proofs.Validity.{past_idle}
use Rattle.run.proofs.Run.close.Goals as goal

pub returns-in-Err : goal.returns-in-Err
returns-in-Err c = refuses c.refused.ensures (closes_not c.args.self _ (c.in-Err.ensures ∙ ap (λ (v : Bool). ready v c.args.self.closed) c.is_valid.ensures))

pub closed_cells-next-requires : goal.closed_cells-next-requires
closed_cells-next-requires c = (valid_parts _ (is_running _ (c.in_default.ensures ∙ ap (λ (v : Bool). ready v c.args.self.closed) c.is_valid.ensures)).0).rules_fit

pub returns : goal.returns
unfolding closed_run
returns c =
    let cells = c.closed_cells-next in
    let begun = c.zero_totals-begun in
    let overall = c.judge_overall-overall in
    let run = c.args.self in
    let valid = (is_running run (c.in_default.ensures ∙ ap (λ (v : Bool). ready v c.args.self.closed) c.is_valid.ensures)).0 in
    let few = (valid_parts run valid).events_fit in
    let past = past_idle run valid in
    let whole : run.count ≡ min run.count most_events = omega arith in
    let next : Run = as_closed (with_standings run cells.result.cells overall.result) in
    accepts run
    (ap (λ (r : Run). record { outcome = Ok tt; run = r })
    (ap (with_totals next) (counted_by_lem next begun.ensures (cells.ensures.totals run.count few past ∙ ap (λ (n : ℕ). row_totals run.table.count n cells.result.cells begun.result) whole))
    ∙ ap₂ (λ (x y : List Cell). counted (as_closed (with_standings run x y))) (cells.ensures.cells (events_of run) run.count few past) (overall.ensures ∙ closes_overall run valid)))
    (closes run (c.in_default.ensures ∙ ap (λ (v : Bool). ready v c.args.self.closed) c.is_valid.ensures))
