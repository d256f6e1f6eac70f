-- The places passed so far are judged and counted; past the events of a row nothing is in use.
-- Counts past what the arrays hold mean no more than all they hold.
use Rattle.std.proofs.Common.{◌≡◌, ℕ, ◌+◌, ◌*◌, ◌/◌, ◌%◌, ◌≤◌, ◌<◌, min, sym, ap, ap₂, ◌∙◌, List, length, get_or, take, add-zero, rules, arith}
use borrow.Author.Tests.{not-false}
use Rattle.declare.specs.declared.Event.{Event}
use Rattle.declare.specs.declared.Standing.{Standing}
use Rattle.declare.specs.Limits.{most_rules, most_events}
use Rattle.declare.specs.Rules.{no_rule, no_condition, no_comparison}
use Rattle.declare.specs.Events.{no_event}
use Rattle.declare.proofs.Booleans.{neither}
use Rattle.declare.proofs.Carried.{only_idle}
use Rattle.declare.proofs.Sweeps.{swept_none, swept_again, swept_kept, swept_skip, swept_all}
use Rattle.standings.specs.Places.{places, idle_cell, changed}
use Rattle.standings.specs.Totals.{row_totals}
use Rattle.standings.proofs.Places.{row_rest, rules_rest}
use Rattle.standings.proofs.Counting.{counting_none, counting_skip, counting_idle, counting_set, counting_all}
use Rattle.judge.specs.Cells.{judged_at, judged_cells}
use Rattle.judge.specs.Ready.{Ready}
use Rattle.judge.proofs.Occurrences.{taken_within}
use Rattle.judge.proofs.Rows.{ready_row, judged_cell, idle_stays, cell_unused, within_arrays}
use Rattle.judge.proofs.cells.judge_cells.Goals as goal
use Rattle.judge.proofs.cells.judge_cells.Goals.{then-row-p, else-row-p}
use Rattle.judge.proofs.cells.judge_cells.Goals.{Joined-row-p}

pub loop-k-init : goal.loop-k-init
loop-k-init c =
    let full : length c.args.cells ≡ places = search rules in
    let slots : length c.args.totals ≡ most_rules = search rules in
    (swept_none _ _, counting_none _ _ _ full slots)

pub loop-p-init : goal.loop-p-init
loop-p-init c = rw add-zero c.loop-k.invariant

ready : (c : Joined-row-p) → Ready c.columns_of-columns.result (take c.min-width.result c.args.events) (take c.min-width.result c.flags_of-flags.result) (get_or c.args.table.rules c.loop-k.k no_rule) c.loop-p.p
unfolding no_rule no_condition no_comparison
ready c =
    let long : length c.args.events ≡ most_events = search rules in
    let wide : length c.flags_of-flags.result ≡ most_events = search rules in
    ready_row c.args.events c.min-width.result c.loop-p.p (omega (arith, c.min-width.ensures)) (omega (arith, c.min-width.ensures)) c.loop-p-test.true wide c.columns_of-columns.ensures c.flags_of-flags.ensures

pub loop-p-preserved : goal.loop-p-preserved
unfolding no_rule no_condition no_comparison no_event
loop-p-preserved c =
    let a = c.args in
    let l = c.loop-p in
    let k = c.loop-k.k in
    let n = c.min-width.result in
    let rows = c.min-k-end.result in
    let j : ℕ = k * most_events + l.p in
    let next : k * most_events + (l.p + 1) ≡ j + 1 = omega arith in
    let few : n ≤ most_events = omega (arith, c.min-width.ensures) in
    let low : j < places = omega (arith, c.min-width.ensures, c.min-k-end.ensures) in
    let line : j / most_events ≡ k = omega arith in
    let column : j % most_events < n = omega arith in
    let full : length c.args.cells ≡ places = search rules in
    let before = get_or l.cells j idle_cell in
    rw next
    (elim c.if-row-p.branch [
      | then-row-p w ↦
          rw (w.cells-is, w.totals-is) (
            swept_again l.invariant.0 idle_cell (omega arith) (judged_cell a.table k (ready c) rows n c.loop-k-test.true c.loop-p-test.true a.running a.horizon before w.judge-next.ensures),
            rw line at (counting_set l.invariant.1 few low column w.judge-next.result {t = w.with_standing.result} (rw line w.with_standing.ensures)),
          )
      | else-row-p w ↦
          let none = neither _ _ w.if-row-p.false in
          let idle = only_idle _ (sym c.is_idle.ensures ∙ not-false _ none.1) in
          rw (w.cells-is, w.totals-is) (
            swept_kept l.invariant.0 idle_cell (omega arith) (idle_stays a.table k (ready c) rows n c.loop-k-test.true c.loop-p-test.true a.running a.horizon before none.0 idle),
            counting_idle l.invariant.1 few low idle,
          )
    ])

-- the rest of a row
pub loop-k-preserved : goal.loop-k-preserved
loop-k-preserved c =
    let l = c.loop-p in
    let k = c.loop-k.k in
    let n = c.min-width.result in
    let next : (k + 1) * most_events ≡ k * most_events + most_events = omega arith in
    rw next (
      swept_skip l.invariant.0 _ (omega arith) (λ i b d x. cell_unused _ _ _ i x (row_rest c.min-k-end.result n i i (omega arith) (omega arith) (omega arith))),
      counting_skip l.invariant.1 _ (λ i. omega arith),
    )

pub returns : goal.returns
unfolding judged_cells changed
returns c =
    let l = c.loop-k in
    let a = c.args in
    let width = c.min-width in
    let rows = c.min-k-end in
    let full : length a.cells ≡ places = search rules in
    let long : length a.events ≡ most_events = search rules in
    let slots : length a.totals ≡ most_rules = search rules in
    let most : width.result ≤ most_events = omega (arith, width.ensures) in
    let f : List Event → ℕ → ℕ → Standing → Standing = λ es. judged_at a.running a.table es a.horizon in (
      swept_all (swept_skip l.invariant.0 places (omega (arith, rows.ensures)) (λ i b d x. cell_unused _ _ _ i x (rules_rest rows.result width.result i (omega arith)))) (omega arith)
          ∙ ap₂ (λ (x y : ℕ). changed (f (take y a.events)) x y a.cells) rows.ensures width.ensures
          ∙ ap (λ (es : List Event). changed (f es) (min a.table.count most_rules) (min a.n most_events) a.cells) (taken_within a.n a.events long)
          ∙ within_arrays (f (take a.n a.events)) a.table.count a.n a.cells full,
      counting_all l.invariant.1 most a.table.count slots (omega (arith, rows.ensures))
          ∙ ap (λ (n : ℕ). row_totals a.table.count n l.cells a.totals) width.ensures,
    )
