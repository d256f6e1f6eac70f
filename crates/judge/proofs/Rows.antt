-- A place of the cells: what the functions over it are handed, and what becomes of it.
use mathlib.Core.Path.{◌≡◌, refl, sym, ◌∙◌, ap}
use mathlib.Core.Bool.{Bool, true, false}
use mathlib.Core.List.{List}
use Prim.Native.Nat.{ℕ, ◌+◌, ◌-◌, ◌*◌, ◌/◌, ◌%◌, min, ◌≤◌, ◌<◌}
use native.Mathlib.Omega.{arith}
use borrow.Author.Tests.{lt-ltb, le-ltb, ltb-true, ltb-false}
use lib.Dec.{ltb}
use lib.ListN.{length, get_or, take}
use lib.Seq.{length-take-le, get_or-take}
use Rattle.declare.specs.declared.Event.{Event}
use Rattle.declare.specs.declared.Rule.{Rule}
use Rattle.declare.specs.declared.Standing.{Standing}
use Rattle.declare.specs.declared.Standing.TheVariants.{Idle}
use Rattle.declare.specs.declared.Table.{Table}
use Rattle.declare.specs.Limits.{most_rules, most_events}
use Rattle.declare.specs.Rules.{no_rule, rule_at}
use Rattle.declare.specs.Steps.{carried}
use Rattle.declare.proofs.Sweeps.{map_from_same}
use Rattle.standings.specs.declared.Cell.{Cell}
use Rattle.standings.specs.Places.{places, in_use, changed_cell, changed}
use Rattle.standings.proofs.Places.{place_in_use}
use Rattle.judge.specs.Cells.{judged, judged_at}
use Rattle.judge.specs.declared.columns.Columns.{Columns}
use Rattle.judge.specs.Columns.{Shows}
use Rattle.judge.specs.Flags.{Flags}
use Rattle.judge.specs.Ready.{Ready}
use Rattle.judge.proofs.Activations.{flag_tells}
use Rattle.judge.proofs.Judged.{idle_here}

-- the first n events, with their columns and flags
pub ready_row : {columns : Columns} {flags : List Bool} {rule : Rule} (events : List Event) (n p : ℕ) → n ≤ length events → n ≤ most_events → p < n → length flags ≡ most_events → Shows columns (take n events) → Flags flags rule (take n events) → Ready columns (take n events) (take n flags) rule p
ready_row {columns} {flags} {rule} events n p room few low wide shows f =
    record {
      low = rw long low;
      high = rw long few;
      width = length-take-le n flags (omega arith) ∙ sym long;
      shows = shows;
      flags = record { at = λ q l. get_or-take n flags q false (rw long at l) ∙ f.at q l };
    }
  where
    long : length (take n events) ≡ n
    long = length-take-le n events room

-- the place of a rule's row, and what becomes of its cell
module _ {columns : Columns} {es : List Event} {row : List Bool} (t : Table) (k : ℕ) {p : ℕ} (ready : Ready columns es row (get_or t.rules k no_rule) p) (rows n : ℕ) (line : k < rows) (column : p < n) (running : Bool) (h : ℕ) (c : Cell) where
  pub judged_cell : {s : Standing} → s ≡ carried c.standing (judged running (get_or t.rules k no_rule) es h (p + 1)) → record { standing = s } ≡ changed_cell (judged_at running t es h) rows n (k * most_events + p) c
  unfolding changed_cell judged_at rule_at
  judged_cell e =
      let low : p < most_events = omega (arith, ready.low, ready.high) in
      let own : (k * most_events + p) / most_events ≡ k = omega arith in
      let place : (k * most_events + p) % most_events ≡ p = omega arith in
      let next : k + 1 - 1 ≡ k = omega arith in
      rw (place_in_use rows n (k * most_events + p) (omega arith) (omega arith), own, place, next) (ap (λ (s : Standing). record { standing = s }) e)

  -- an idle cell of an event that is no activation stays
  pub idle_stays : get_or row p false ≡ false → c.standing ≡ Idle → changed_cell (judged_at running t es h) rows n (k * most_events + p) c ≡ c
  unfolding carried
  idle_stays off e =
      let idle = idle_here ready (flag_tells ready ∙ off) running h in
      sym (judged_cell (rw e idle)) ∙ ap (λ (s : Standing). record { standing = s }) (sym e)

pub cell_unused : (f : ℕ → ℕ → Standing → Standing) (rules n j : ℕ) (c : Cell) → in_use rules n j ≡ false → changed_cell f rules n j c ≡ c
unfolding changed_cell
cell_unused f rules n j c u = rw u

-- ---- counts past what the arrays hold

below_min : (x a b : ℕ) → x < b → ltb x (min a b) ≡ ltb x a
below_min x a b l = go (ltb x a) refl
  where
    go : (t : Bool) → ltb x a ≡ t → ltb x (min a b) ≡ t
    go true e = lt-ltb x (min a b) (omega (arith, ltb-true x a e))
    go false e = le-ltb x (min a b) (omega (arith, ltb-false x a e))

pub within_arrays : (f : ℕ → ℕ → Standing → Standing) (rules n : ℕ) (cells : List Cell) → length cells ≡ places → changed f (min rules most_rules) (min n most_events) cells ≡ changed f rules n cells
unfolding changed changed_cell in_use
within_arrays f rules n cells full =
    map_from_same (changed_cell f (min rules most_rules) (min n most_events)) (changed_cell f rules n) 0 cells
    (λ j a b c. rw (below_min (j / most_events) rules most_rules (omega arith), below_min (j % most_events) n most_events (omega arith)))
