-- No place that was passed is invalid, and all are counted; the definition goes row by row.
use Rattle.std.proofs.Common.{Some}
use mathlib.Core.Path.{◌≡◌, sym, ap, ◌∙◌}
use mathlib.Core.Bool.{Bool, true, false}
use mathlib.Core.List.{List}
use Prim.Native.Nat.{ℕ, ◌<◌, ◌+◌, ◌-◌, ◌*◌, ◌/◌, ◌%◌}
use native.Mathlib.Omega.{arith}
use lib.ListN.{length, get_or}
use Rattle.declare.specs.declared.Standing.{Standing}
use Rattle.declare.specs.declared.Table.{Table}
use Rattle.declare.specs.Standings.{is_idle}
use Rattle.declare.specs.Lists.{all_below}
use Rattle.declare.specs.Limits.{most_rules}
use Rattle.declare.specs.Rules.{rule_at, no_rule, no_condition, no_comparison}
use Rattle.declare.proofs.Booleans.{fails}
use Rattle.declare.proofs.Carried.{only_idle}
use Rattle.declare.proofs.Sweeps.{all_none, all_again}
use Rattle.standings.specs.declared.Cell.{Cell}
use Rattle.standings.specs.Places.{places, idle_cell}
use Rattle.standings.proofs.Counting.{counting_none, counting_idle, counting_more, counting_all}
use Rattle.run.specs.Records.{events_judged, valid_standings}
use Rattle.declare.proofs.Lists.{all_each}
use Rattle.run.proofs.Places.{idle_anywhere}
use Rattle.run.proofs.Checks.{judged_most, stands_judged, flat_stands_at}
use borrow.Author.Rules.{rules}
use Rattle.run.proofs.record.checked_rows.Invariants.{valid}
use Rattle.run.proofs.record.checked_rows.Goals as goal

one_invalid : (closed : Bool) (t : Table) (count : ℕ) (cells : List Cell) (j : ℕ) → j < t.count * 256 → valid closed t count cells j ≡ false → false ≡ valid_standings closed t count cells
one_invalid closed t count cells j h e =
    sym (fails (all_below (valid closed t count cells) (t.count * 256)) (λ a. all_each (valid closed t count cells) (t.count * 256) a j h) e)
    ∙ flat_stands_at closed t count cells

pub loop-j-init : goal.loop-j-init
loop-j-init c =
    let full : length c.args.cells.now ≡ places = search rules in
    let slots : length c.args.totals ≡ most_rules = search rules in
    (omega arith, all_none _, counting_none _ _ _ full slots)

-- idle may stand anywhere, and counts for nothing
pub loop-j-preserved-then-is_idle : goal.loop-j-preserved-then-is_idle
loop-j-preserved-then-is_idle c =
    let l = c.loop-j in
    let a = c.args in
    let s : Standing = (get_or a.cells.now l.j idle_cell).standing in
    let idle : is_idle s ≡ true = sym c.is_idle.ensures ∙ c.if-is_idle.true in
    let low : l.j < places = omega (arith, c.requires.0) in (
      omega arith,
      all_again _ _ l.invariant.1 (sym (idle_anywhere a.closed a.count (events_judged (rule_at a.table.now (l.j / 256 + 1)) a.count) (l.j % 256 + 1) s idle)),
      counting_idle l.invariant.2 c.requires.1 low (only_idle s idle),
    )

-- the rule of the row
of_row : (t : Table) (k count : ℕ) {judged : ℕ} → judged ≡ events_judged (get_or t.rules k no_rule) count → judged ≡ events_judged (rule_at t (k + 1)) count
unfolding rule_at
of_row t k count e =
    let z : k + 1 - 1 ≡ k = omega arith in
    rw z e

pub returns-then-not-valid_at : goal.returns-then-not-valid_at
unfolding no_rule no_condition no_comparison
returns-then-not-valid_at c =
    let l = c.loop-j in
    let a = c.args in
    let own = of_row a.table.now (l.j / 256) a.count c.events_judged-judged.ensures in
    rw (← one_invalid a.closed a.table.now a.count a.cells.now l.j (omega arith) (rw (← own) (sym c.if-not-valid_at.ensures)))

-- any other is counted, and judged
pub loop-j-preserved : goal.loop-j-preserved
unfolding no_rule no_condition no_comparison
loop-j-preserved c =
    let l = c.loop-j in
    let a = c.args in
    let s : Standing = (get_or a.cells.now l.j idle_cell).standing in
    let own = of_row a.table.now (l.j / 256) a.count c.events_judged-judged.ensures in
    let holds : valid a.closed a.table.now a.count a.cells.now l.j ≡ true = rw (← own) (sym c.if-not-valid_at.ensures) in
    let low : l.j < places = omega (arith, c.requires.0) in
    let within = stands_judged a.closed a.count (events_judged (rule_at a.table.now (l.j / 256 + 1)) a.count) (l.j % 256 + 1) s holds (sym c.if-is_idle.ensures) in
    let most = judged_most (rule_at a.table.now (l.j / 256 + 1)) a.count in (
      omega arith,
      all_again _ _ l.invariant.1 (sym holds),
      counting_more l.invariant.2 c.requires.1 low (omega (arith, within, most)) c.with_standing.ensures,
    )

pub returns : goal.returns
returns c =
    let l = c.loop-j in
    let a = c.args in
    let slots : length a.totals ≡ most_rules = search rules in
    let whole : l.j ≡ a.table.now.count * 256 = omega arith in
    let holds : true ≡ valid_standings a.closed a.table.now a.count a.cells.now = l.invariant.1 ∙ ap (all_below _) whole ∙ flat_stands_at a.closed a.table.now a.count a.cells.now in
    rw (← holds)
    (ap Some (counting_all l.invariant.2 c.requires.1 a.table.now.count slots (omega (arith, whole, c.requires.0))))
