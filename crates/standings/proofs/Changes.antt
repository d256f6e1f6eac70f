-- A change of all cells, by rule and position: what is in use is changed, what is not stays.
use mathlib.Core.Path.{◌≡◌, refl, ap, ◌∙◌}
use mathlib.Core.Bool.{Bool, true, false, cond, and-false}
use mathlib.Core.List.{List}
use Prim.Native.Nat.{ℕ, ◌+◌, ◌-◌, ◌≤◌, ◌<◌}
use native.Mathlib.Nat.{zero-add}
use native.Mathlib.Omega.{arith}
use borrow.Author.Tests.{le-leb, lt-leb}
use lib.Dec.{leb}
use lib.ListN.{length, get_or, replicate}
use Rattle.declare.specs.declared.Standing.{Standing}
use Rattle.declare.specs.declared.Standing.TheVariants.{Idle}
use Rattle.declare.proofs.Lists.{replicated}
use Rattle.declare.proofs.Sweeps.{get_or_map_from, length_map_from}
use Rattle.standings.specs.declared.Cell.{Cell}
use Rattle.standings.specs.Places.{places, idle_cell, place_of, standing_from, standing_in, overall_in, overall_cell, changed_overall, in_use, changed_cell, changed}
use Rattle.standings.proofs.Places.{in_use_lem, rule_at_lem, position_at}

module _ (f : ℕ → ℕ → Standing → Standing) (rules n : ℕ) (cells : List Cell) where
  pub changed_length : length (changed f rules n cells) ≡ length cells
  unfolding changed
  changed_length = length_map_from (changed_cell f rules n) 0 cells

  module _ (j : ℕ) (within : j < length cells) where
    changed_at : get_or (changed f rules n cells) j idle_cell ≡ changed_cell f rules n j (get_or cells j idle_cell)
    unfolding changed
    changed_at =
        get_or_map_from (changed_cell f rules n) 0 cells j idle_cell within
        ∙ ap (λ (i : ℕ). changed_cell f rules n i (get_or cells j idle_cell)) (zero-add j)

    -- a cell that is not in use stays as it is
    pub changed_kept : in_use rules n j ≡ false → get_or (changed f rules n cells) j idle_cell ≡ get_or cells j idle_cell
    unfolding changed_cell
    changed_kept u = changed_at ∙ rw u refl

  module _ (size : length cells ≡ places) (k i : ℕ) (k-low : 1 ≤ k) (k_high : k ≤ 16) (i-low : 1 ≤ i) (i_high : i ≤ 256) where
    by_place : standing_in (changed f rules n cells) k i ≡ (changed_cell f rules n (place_of k i) (get_or cells (place_of k i) idle_cell)).standing
    unfolding standing_in standing_from
    by_place = ap (λ (c : Cell). c.standing) (changed_at (place_of k i) (omega arith))

    pub changed_standing : k ≤ rules → i ≤ n → standing_in (changed f rules n cells) k i ≡ f k i (standing_in cells k i)
    unfolding changed_cell standing_in standing_from
    changed_standing a b =
        by_place
        ∙ rw (in_use_lem k i k-low i-low i_high rules n, le-leb k rules a, le-leb i n b, rule_at_lem k i k-low i-low i_high, position_at k i k-low i-low i_high) refl

    -- past the events a standing stays
    pub changed_past : n < i → standing_in (changed f rules n cells) k i ≡ standing_in cells k i
    unfolding changed_cell standing_in standing_from
    changed_past b = by_place ∙ rw (in_use_lem k i k-low i-low i_high rules n, lt-leb i n b, and-false (leb k rules)) refl

pub idle_standing : (cells : List Cell) (k i : ℕ) → get_or cells (place_of k i) idle_cell ≡ idle_cell → standing_in cells k i ≡ Idle
unfolding standing_in standing_from
idle_standing cells k i e = ap (λ (c : Cell). c.standing) e

pub idle_everywhere : (n k i : ℕ) → standing_in (replicate n idle_cell) k i ≡ Idle
unfolding standing_in standing_from
idle_everywhere n k i = ap (λ (c : Cell). c.standing) (replicated n (place_of k i) idle_cell)

-- ---- position 0

module _ (of : ℕ → Bool) (f : ℕ → ℕ → Standing → Standing) (cells : List Cell) where
  pub overall_length : length (changed_overall of f cells) ≡ length cells
  unfolding changed_overall
  overall_length = length_map_from _ 0 cells

  module _ (k : ℕ) (low : 1 ≤ k) (high : k ≤ length cells) where
    overall_at : get_or (changed_overall of f cells) (k - 1) idle_cell ≡ cond (of k) (record { standing = f k 0 (overall_in cells k) }) (get_or cells (k - 1) idle_cell)
    unfolding changed_overall overall_cell overall_in
    overall_at =
        let n : k - 1 + 1 ≡ k = omega arith in
        get_or_map_from _ 0 cells (k - 1) idle_cell (omega arith) ∙ rw (zero-add (k - 1), n) refl

    pub overall_changed : of k ≡ true → overall_in (changed_overall of f cells) k ≡ f k 0 (overall_in cells k)
    unfolding overall_in
    overall_changed u = ap (λ (c : Cell). c.standing) (overall_at ∙ rw u refl)

    -- of another rule it stays as it is
    pub overall_kept : of k ≡ false → get_or (changed_overall of f cells) (k - 1) idle_cell ≡ get_or cells (k - 1) idle_cell
    overall_kept u = overall_at ∙ rw u refl
