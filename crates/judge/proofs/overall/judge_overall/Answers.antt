-- The loop has changed the cells passed as the definition changes them all: under a rule about the
-- cycle one that is not decided is judged, any other stays as it is; past the rules all stay.
use Rattle.std.proofs.Common.{◌≡◌, ℕ, not, ◌&&◌, ◌<◌, sym, ap, ap₂, ◌∙◌, List, length, take, rules, arith}
use borrow.Author.Tests.{not-true}
use Rattle.declare.specs.declared.Event.{Event}
use Rattle.declare.specs.Limits.{most_rules, most_events}
use Rattle.declare.specs.Rules.{no_comparison, no_condition, no_rule, is_overall_rule}
use Rattle.declare.proofs.Booleans.{and₂}
use Rattle.declare.proofs.Sweeps.{swept_none, swept_again, swept_kept, swept_skip, swept_all}
use Rattle.standings.specs.Places.{idle_cell, changed_overall}
use Rattle.judge.specs.Cells.{judged_at, judged_overall}
use Rattle.judge.proofs.Occurrences.{taken_within, cell_judged, cell_stays, cell_past}
use Rattle.judge.proofs.overall.judge_overall.Goals as goal
use Rattle.judge.proofs.overall.judge_overall.Goals.{then-is_overall-is_decided, else-is_overall-is_decided}

pub loop-k-init : goal.loop-k-init
loop-k-init c = swept_none _ _

pub loop-k-preserved : goal.loop-k-preserved
unfolding no_rule no_condition no_comparison
loop-k-preserved c =
    let l = c.loop-k in
    let a = c.args in
    let low : l.k < a.table.count = omega (arith, c.min-k-end.ensures) in
    let full : length c.args.cells ≡ most_rules = search rules in
    let of_cycle = c.is_overall.ensures in
    let decided = c.is_decided.ensures in
    elim c.if-is_overall-is_decided.branch [
      | then-is_overall-is_decided w ↦
          let p = and₂ w.if-is_overall-is_decided.true in
          rw w.cells-is (swept_again l.invariant idle_cell (omega arith) (cell_judged a.table a.running _ a.horizon l.k _ low (sym of_cycle ∙ p.0) (sym decided ∙ not-true _ p.1) w.judge_cycle-next.ensures))
      | else-is_overall-is_decided w ↦
          rw w.cells-is (swept_kept l.invariant idle_cell (omega arith) (cell_stays a.table a.running _ a.horizon l.k _ low (ap₂ (λ x y. x && not y) (sym of_cycle) (sym decided) ∙ w.if-is_overall-is_decided.false)))
    ]

pub returns : goal.returns
unfolding judged_overall changed_overall
returns c =
    let l = c.loop-k in
    let a = c.args in
    let full : length a.cells ≡ most_rules = search rules in
    let slots : length a.events ≡ most_events = search rules in
    swept_all (swept_skip l.invariant most_rules (omega (arith, c.min-k-end.ensures)) (λ i b d x. cell_past a.table a.running _ a.horizon i x (omega (arith, c.min-k-end.ensures)))) (omega arith)
    ∙ ap (λ (es : List Event). changed_overall (is_overall_rule a.table) (judged_at a.running a.table es a.horizon) a.cells) (ap (λ (n : ℕ). take n a.events) c.min.ensures ∙ taken_within a.n a.events slots)
