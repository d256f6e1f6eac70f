-- The loop has changed the cells passed as the definition changes them all, and counted them: what
-- is idle stays, any other is of one of the events; past the rows of the rules none is in use.
use mathlib.Core.Path.{◌≡◌, refl, sym, ap, ◌∙◌}
use mathlib.Core.Bool.{Bool, true, false, true≢false}
use mathlib.Core.List.{List, []}
use Prim.Native.Nat.{ℕ, ◌*◌, ◌%◌, ◌<◌}
use native.Mathlib.Omega.{arith}
use borrow.Author.Rules.{rules}
use borrow.Author.Tests.{ltb-true, ltb-false}
use lib.Dec.{ltb}
use lib.ListN.{length, get_or}
use Rattle.declare.specs.declared.Event.{Event}
use Rattle.declare.specs.declared.Standing.{Standing}
use Rattle.declare.specs.declared.Standing.TheVariants.{Idle}
use Rattle.declare.specs.declared.Table.{Table}
use Rattle.declare.specs.Limits.{most_rules, most_events}
use Rattle.declare.specs.Rules.{no_comparison, no_condition, no_rule}
use Rattle.declare.specs.Standings.{is_idle}
use Rattle.declare.proofs.Carried.{only_idle}
use Rattle.declare.proofs.Sweeps.{swept_none, swept_at, swept_again, swept_kept, swept_skip, swept_all}
use Rattle.standings.specs.declared.Cell.{Cell}
use Rattle.standings.specs.declared.totals.Totals.{Totals}
use Rattle.standings.specs.Places.{places, idle_cell, changed}
use Rattle.standings.proofs.Places.{rules_rest}
use Rattle.standings.proofs.Counting.{counting_none, counting_idle, counting_set, counting_all}
use Rattle.run.specs.Close.{closed_cells, IdlePast}
use Rattle.run.proofs.Closing.{cell_unused, cell_idle, cell_closed}
use Rattle.run.proofs.close.closed_cells.Invariants.{Closed}
use Rattle.run.proofs.close.closed_cells.Goals as goal

pub loop-j-init : goal.loop-j-init
loop-j-init c =
    let size : length c.args.cells ≡ places = search rules in
    let slots : length c.args.totals ≡ most_rules = search rules in
    (omega arith, λ n few past. record { cells = λ es. swept_none _ _; totals = counting_none _ _ _ size slots })

pub loop-j-preserved-then-is_idle : goal.loop-j-preserved-then-is_idle
loop-j-preserved-then-is_idle c =
    let l = c.loop-j in
    let s : Standing = (get_or l.cells l.j idle_cell).standing in
    let idle : s ≡ Idle = only_idle s (sym c.if-is_idle.ensures) in
    let low : l.j < places = omega (arith, c.requires) in
    let size : length c.args.cells ≡ places = search rules in (
      omega arith,
      λ n few past.
          let done = l.invariant.1 n few past in
          record {
            cells = λ es. swept_kept (done.cells es) idle_cell (omega (arith, low, size)) (cell_idle c.args.table es n l.j _ idle);
            totals = counting_idle done.totals few low idle;
          },
    )

-- a cell that is not idle is of one of the events
used : (t : Table) (l a : List Cell) (begun now : List Totals) (j n : ℕ) (es : List Event) → Closed t l a begun now j n → IdlePast t n l → j < t.count * most_events → is_idle (get_or a j idle_cell).standing ≡ false → j % most_events < n
used t l a begun now j n es s past low active = go (ltb (j % most_events) n) refl
  where
    go : (b : Bool) → ltb (j % most_events) n ≡ b → j % most_events < n
    go true q = ltb-true (j % most_events) n q
    go false q =
        let was = ap (λ (c : Cell). is_idle c.standing) (swept_at (s.cells es) idle_cell) ∙ ap is_idle (past j low (ltb-false (j % most_events) n q)) in
        absurd (true≢false (sym was ∙ active))

pub loop-j-preserved : goal.loop-j-preserved
unfolding no_rule no_condition no_comparison
loop-j-preserved c =
    let l = c.loop-j in
    let a = c.args in
    let low : l.j < places = omega (arith, c.requires) in
    let size : length a.cells ≡ places = search rules in (
      omega arith,
      λ n few past.
          let done = l.invariant.1 n few past in
          let p = used a.table a.cells _ _ _ l.j n [] done past (omega arith) (sym c.if-is_idle.ensures) in
          record {
            cells = λ es. swept_again (done.cells es) idle_cell (omega (arith, low, size)) (cell_closed a.table es n l.j _ (omega arith) p c.closed-next.ensures);
            totals = counting_set done.totals few low p _ c.with_standing.ensures;
          },
    )

pub returns : goal.returns
unfolding closed_cells changed
returns c =
    let l = c.loop-j in
    let size : length c.args.cells ≡ places = search rules in
    let slots : length c.args.totals ≡ most_rules = search rules in
    let rules = c.args.table.count in
    record {
      cells =
          λ es n few past. swept_all (swept_skip ((l.invariant.1 n few past).cells es) places (omega (arith, c.requires)) (λ i a b x. cell_unused _ es _ i x (rules_rest _ _ i (omega arith)))) (omega (arith, size));
      totals = λ n few past. counting_all (l.invariant.1 n few past).totals few rules slots (omega (arith, c.requires));
    }
