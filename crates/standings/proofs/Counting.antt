-- The rows counted place by place, in flat order. At place j each slot has what it began with and
-- the positions of its row that were passed: all n of a row before, none of a row to come.
use mathlib.Core.Path.{◌≡◌, refl, sym, ap, ap₂, ◌∙◌}
use mathlib.Core.Bool.{Bool, true, false, cond}
use mathlib.Core.List.{List, [], ◌∷◌}
use Prim.Native.Nat.{ℕ, zero, suc, ◌+◌, ◌-◌, ◌*◌, ◌/◌, ◌%◌, ◌≤◌, ◌<◌, min}
use native.Mathlib.Nat.{zero-add}
use native.Mathlib.Numerals.{add-one}
use native.Mathlib.Omega.{arith}
use borrow.Author.Tests.{eqb-true, eqb-false, ltb-true, ltb-false}
use lib.Dec.{ltb, eqb}
use lib.ListN.{length, get_or, set, length-set}
use lib.Seq.{ext_get_or, get_or-set_same, get_or-set_other}
use Rattle.declare.specs.declared.Standing.{Standing}
use Rattle.declare.specs.declared.Standing.TheVariants.{Idle}
use Rattle.declare.specs.declared.Table.{Table}
use Rattle.declare.specs.Limits.{most_rules, most_events}
use Rattle.declare.specs.Lists.{map_from}
use Rattle.declare.proofs.Sweeps.{get_or_map_from, length_map_from}
use Rattle.standings.specs.declared.Cell.{Cell}
use Rattle.standings.specs.declared.totals.Totals.{Totals}
use Rattle.standings.specs.Places.{places, idle_cell, standing_from, standing_in, zero_in, with_zero}
use Rattle.standings.specs.Totals.{totals_by, no_totals, with_standing, with_row, zero_totals, row_totals}
use Rattle.standings.proofs.Counts.{totals_first, totals_next}
use Rattle.standings.proofs.Same.{standing_at_lem}

-- ---- one row

-- equal standings, equal totals
row_same : (t : Totals) (s u : ℕ → Standing) (n : ℕ) → ((i : ℕ) → 1 ≤ i → i ≤ n → s i ≡ u i) → with_row t s n ≡ with_row t u n
unfolding with_row
row_same t s u zero f = refl
row_same t s u (suc n) f =
    ap₂ with_standing (row_same t s u n (λ i a b. f i a (omega arith))) (f (suc n) (omega arith) (omega arith))

-- begun with position 0 they are the totals of the rule
row_totals_lem : (z : Standing) (s : ℕ → Standing) (n : ℕ) → n ≤ most_events → with_row (with_standing no_totals z) s n ≡ totals_by (with_zero z s) n
unfolding with_row with_zero
row_totals_lem z s zero l = totals_first (with_zero z s)
row_totals_lem z s (suc n) l =
    ap (λ (t : Totals). with_standing t (s (suc n))) (row_totals_lem z s n (omega arith)) ∙ totals_next (with_zero z s) n (omega arith)

-- ---- all rows

pub record Counting (n : ℕ) (cells : List Cell) (before now : List Totals) (j : ℕ) : Type 0 where
  pub full : length cells ≡ places
  pub size : length now ≡ most_rules
  pub slots : (k : ℕ) → k < most_rules → get_or now k no_totals ≡ with_row (get_or before k no_totals) (standing_in cells (k + 1)) (min n (j - k * most_events))

pub counting_none : (n : ℕ) (cells : List Cell) (before : List Totals) → length cells ≡ places → length before ≡ most_rules → Counting n cells before before 0
unfolding with_row
counting_none n cells before full size =
    record { full = full; size = size; slots = λ k _. let e : min n (0 - k * most_events) ≡ 0 = omega arith in rw e refl }

module _ {n : ℕ} {cells : List Cell} {before now : List Totals} {j : ℕ} (c : Counting n cells before now j) where
  abbrev row : ℕ
  row = j / most_events

  abbrev standing : Standing
  standing = (get_or cells j idle_cell).standing

  -- places passed over that no row counts
  pub counting_skip : (m : ℕ) → ((k : ℕ) → min n (m - k * most_events) ≡ min n (j - k * most_events)) → Counting n cells before now m
  counting_skip m same =
      record { full = c.full; size = c.size; slots = λ k l. let e = same k in rw e (c.slots k l) }

  module _ (few : n ≤ most_events) where
    -- the rest of a row, past its n positions
    pub counting_rest : n ≤ j % most_events → (m : ℕ) → j ≤ m → m ≤ j + (most_events - j % most_events) → Counting n cells before now m
    counting_rest past m a b = counting_skip m (λ k. omega arith)

    -- the slot of another row
    other : (k : ℕ) → (k ≡ row → ⊥) → min n (j + 1 - k * most_events) ≡ min n (j - k * most_events)
    other k z = omega arith

    -- position j % 256 + 1 of the row at hand
    own : j % most_events < n → with_row (get_or before row no_totals) (standing_in cells (row + 1)) (min n (j + 1 - row * most_events)) ≡ with_standing (with_row (get_or before row no_totals) (standing_in cells (row + 1)) (min n (j - row * most_events))) standing
    unfolding with_row
    own low =
        let m : min n (j + 1 - row * most_events) ≡ suc (j % most_events) = omega arith in
        let p : min n (j - row * most_events) ≡ j % most_events = omega arith in
        rw (m, p)
        (ap (with_standing _) (ap (standing_in cells (row + 1)) (sym (add-one (j % most_events))) ∙ standing_at_lem cells j))

    module _ (low : j < places) where
      here : row < most_rules
      here = omega arith

      -- one place counted
      pub counting_more : j % most_events < n → {t : Totals} → t ≡ with_standing (get_or now row no_totals) standing → Counting n cells before (set now row t) (j + 1)
      counting_more p {t} e =
          record { full = c.full; size = length-set now row t ∙ c.size; slots = λ k l. go k l (eqb k row) refl }
        where
          go : (k : ℕ) → k < most_rules → (b : Bool) → eqb k row ≡ b → get_or (set now row t) k no_totals ≡ with_row (get_or before k no_totals) (standing_in cells (k + 1)) (min n (j + 1 - k * most_events))
          go k l true q =
              let z : k ≡ row = eqb-true k row q in
              rw z
              (get_or-set_same now row t no_totals (omega (arith, here, c.size))
              ∙ e
              ∙ ap (λ (u : Totals). with_standing u standing) (c.slots row here)
              ∙ sym (own p))
          go k l false q =
              let z : k ≡ row → ⊥ = eqb-false k row q in
              let m = other k z in
              get_or-set_other now row k t no_totals z ∙ rw m (c.slots k l)

      -- an idle place counts for nothing
      pub counting_idle : standing ≡ Idle → Counting n cells before now (j + 1)
      counting_idle idle = go (ltb (j % most_events) n) refl
        where
          stays : j % most_events < n → (k : ℕ) → k < most_rules → (b : Bool) → eqb k row ≡ b → get_or now k no_totals ≡ with_row (get_or before k no_totals) (standing_in cells (k + 1)) (min n (j + 1 - k * most_events))
          stays p k l true q =
              let z : k ≡ row = eqb-true k row q in
              rw z (c.slots row here ∙ sym (own p ∙ rw idle (unfold with_standing in refl)))
          stays p k l false q = let m = other k (eqb-false k row q) in rw m (c.slots k l)

          go : (b : Bool) → ltb (j % most_events) n ≡ b → Counting n cells before now (j + 1)
          go true q = record { full = c.full; size = c.size; slots = λ k l. stays (ltb-true (j % most_events) n q) k l (eqb k row) refl }
          go false q = counting_rest (ltb-false (j % most_events) n q) (j + 1) (omega arith) (omega arith)

    -- a place that was not passed yet is changed
    counting_changed : (x : Cell) → Counting n (set cells j x) before now j
    unfolding standing_in standing_from
    counting_changed x =
        record {
          full = length-set cells j x ∙ c.full;
          size = c.size;
          slots = λ k l. c.slots k l ∙ row_same _ _ _ _ (λ i a b. ap (λ (y : Cell). y.standing) (sym (get_or-set_other cells j ((k + 1 - 1) * most_events + (i - 1)) x idle_cell (λ e. absurd (omega arith)))));
        }

    -- all rows passed
    pub counting_all : (rules : ℕ) → length before ≡ most_rules → j ≡ min rules most_rules * most_events → now ≡ row_totals rules n cells before
    unfolding row_totals
    counting_all rules size e =
        ext_get_or no_totals now _ (c.size ∙ sym (length_map_from _ 0 before ∙ size)) (λ k l. at k (omega (arith, l, c.size)))
      where
        at : (k : ℕ) → k < most_rules → get_or now k no_totals ≡ get_or (map_from (λ i u. cond (ltb i rules) (with_row u (standing_in cells (i + 1)) n) u) 0 before) k no_totals
        at k l =
            c.slots k l
            ∙ go (ltb k rules) refl
            ∙ sym (get_or_map_from _ 0 before k no_totals (omega (arith, l, size)) ∙ rw (zero-add k) refl)
          where
            go : (b : Bool) → ltb k rules ≡ b → with_row (get_or before k no_totals) (standing_in cells (k + 1)) (min n (j - k * most_events)) ≡ cond b (with_row (get_or before k no_totals) (standing_in cells (k + 1)) n) (get_or before k no_totals)
            go true q =
                let r : k < rules = ltb-true k rules q in
                let m : min n (j - k * most_events) ≡ n = omega arith in
                rw m refl
            go false q =
                let r : rules ≤ k = ltb-false k rules q in
                let m : min n (j - k * most_events) ≡ 0 = omega arith in
                rw m (unfold with_row in refl)

-- a place changed, and counted with its new standing
pub counting_set : {n : ℕ} {cells : List Cell} {before now : List Totals} {j : ℕ} → Counting n cells before now j → n ≤ most_events → j < places → j % most_events < n → (s : Standing) {t : Totals} → t ≡ with_standing (get_or now (j / most_events) no_totals) s → Counting n (set cells j (record { standing = s })) before (set now (j / most_events) t) (j + 1)
counting_set {cells = cells} {now = now} {j = j} c few low p s e =
    counting_more (counting_changed c few (record { standing = s })) few low p
    (e ∙ ap (λ (x : Cell). with_standing (get_or now (j / most_events) no_totals) x.standing) (sym (get_or-set_same cells j (record { standing = s }) idle_cell (omega (arith, low, c.full)))))

-- of no positions
pub rows_none : (rules : ℕ) (cells : List Cell) (totals : List Totals) → row_totals rules 0 cells totals ≡ totals
unfolding row_totals map_from with_row
rows_none rules cells totals = go 0 totals
  where
    at : (u : Totals) (b : Bool) → cond b u u ≡ u
    at u true = refl
    at u false = refl

    go : (k : ℕ) (us : List Totals) → map_from (λ i u. cond (ltb i rules) u u) k us ≡ us
    go k [] = refl
    go k (u ∷ us) = ap₂ (λ (x : Totals) (xs : List Totals). x ∷ xs) (at u (ltb k rules)) (go (suc k) us)

-- ---- begun with position 0, the rows give the totals of each rule

pub rows_counted : (t : Table) (n : ℕ) (cells overall : List Cell) (totals : List Totals) → n ≤ most_events → row_totals t.count n cells (zero_totals t overall totals) ≡ map_from (λ k u. cond (ltb k t.count) (totals_by (with_zero (zero_in t overall (k + 1)) (standing_in cells (k + 1))) n) u) 0 totals
unfolding row_totals zero_totals map_from
rows_counted t n cells overall totals few = go 0 totals
  where
    at : (k : ℕ) (u : Totals) (b : Bool) → cond b (with_row (cond b (with_standing no_totals (zero_in t overall (k + 1))) u) (standing_in cells (k + 1)) n) (cond b (with_standing no_totals (zero_in t overall (k + 1))) u) ≡ cond b (totals_by (with_zero (zero_in t overall (k + 1)) (standing_in cells (k + 1))) n) u
    at k u true = row_totals_lem (zero_in t overall (k + 1)) (standing_in cells (k + 1)) n few
    at k u false = refl

    go : (k : ℕ) (us : List Totals) → map_from (λ i u. cond (ltb i t.count) (with_row u (standing_in cells (i + 1)) n) u) k (map_from (λ i u. cond (ltb i t.count) (with_standing no_totals (zero_in t overall (i + 1))) u) k us) ≡ map_from (λ i u. cond (ltb i t.count) (totals_by (with_zero (zero_in t overall (i + 1)) (standing_in cells (i + 1))) n) u) k us
    go k [] = refl
    go k (u ∷ us) = ap₂ (λ (x : Totals) (xs : List Totals). x ∷ xs) (at k u (ltb k t.count)) (go (suc k) us)
