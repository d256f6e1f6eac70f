-- Cells that have the same standings under the rules, for the events, and are idle elsewhere, are
-- the same.
use mathlib.Core.Path.{◌≡◌, refl, sym, ap, subst, ◌∙◌}
use mathlib.Core.Bool.{Bool, true, false}
use mathlib.Core.List.{List}
use Prim.Native.Nat.{ℕ, ◌+◌, ◌-◌, ◌*◌, ◌/◌, ◌%◌, ◌≤◌, ◌<◌}
use native.Mathlib.Omega.{arith}
use borrow.Author.Tests.{ltb-true}
use lib.Dec.{ltb}
use lib.ListN.{length, get_or}
use lib.Seq.{ext_get_or}
use Rattle.declare.specs.declared.Standing.{Standing}
use Rattle.declare.specs.Limits.{most_rules}
use Rattle.declare.proofs.Booleans.{and₂}
use Rattle.standings.specs.declared.Cell.{Cell}
use Rattle.standings.specs.Places.{places, idle_cell, standing_from, standing_in, overall_in, in_use}

-- the standing at a place, by its rule and position
pub standing_at_lem : (cells : List Cell) (j : ℕ) → standing_in cells (j / 256 + 1) (j % 256 + 1) ≡ (get_or cells j idle_cell).standing
unfolding standing_in standing_from
standing_at_lem cells j = ap (λ (i : ℕ). (get_or cells i idle_cell).standing) place
  where
    place : (j / 256 + 1 - 1) * 256 + (j % 256 + 1 - 1) ≡ j
    place = omega arith

-- all cells, of which those not in use are idle
pub record UnusedIdle (rules n : ℕ) (cells : List Cell) : Type 0 where
  pub size : length cells ≡ places
  pub idle : (j : ℕ) → j < places → in_use rules n j ≡ false → get_or cells j idle_cell ≡ idle_cell

-- the same standing for each rule and position
abbrev SameStandings : ℕ → ℕ → List Cell → List Cell → Type 0
SameStandings rules n xs ys = (k i : ℕ) → 1 ≤ k → k ≤ rules → 1 ≤ i → i ≤ n → standing_in xs k i ≡ standing_in ys k i

abbrev cell_of : Standing → Cell
cell_of s = record { standing = s }

pub same_cells : (rules n : ℕ) (xs ys : List Cell) → UnusedIdle rules n xs → UnusedIdle rules n ys → SameStandings rules n xs ys → xs ≡ ys
same_cells rules n xs ys f g same =
    ext_get_or idle_cell xs ys (f.size ∙ sym g.size) (λ j h. here j (subst (λ (n : ℕ). j < n) f.size h))
  where
    used : (j : ℕ) → in_use rules n j ≡ true → get_or xs j idle_cell ≡ get_or ys j idle_cell
    used j u =
        let p : (ltb (j / 256) rules ≡ true) × (ltb (j % 256) n ≡ true) = unfold in_use in and₂ u in
        let k : j / 256 < rules = ltb-true (j / 256) rules p.0 in
        let i : j % 256 < n = ltb-true (j % 256) n p.1 in
        ap cell_of (sym (standing_at_lem xs j) ∙ same (j / 256 + 1) (j % 256 + 1) (omega arith) (omega (arith, k)) (omega arith) (omega (arith, i)) ∙ standing_at_lem ys j)

    here : (j : ℕ) → j < places → get_or xs j idle_cell ≡ get_or ys j idle_cell
    here j h = by_use (in_use rules n j) refl
      where
        by_use : (b : Bool) → in_use rules n j ≡ b → get_or xs j idle_cell ≡ get_or ys j idle_cell
        by_use true e = used j e
        by_use false e = f.idle j h e ∙ sym (g.idle j h e)

-- ---- position 0

pub same_overall : (of : ℕ → Bool) (xs ys : List Cell) → length xs ≡ most_rules → length ys ≡ most_rules → ((k : ℕ) → 1 ≤ k → k ≤ most_rules → of k ≡ false → get_or xs (k - 1) idle_cell ≡ idle_cell) → ((k : ℕ) → 1 ≤ k → k ≤ most_rules → of k ≡ false → get_or ys (k - 1) idle_cell ≡ idle_cell) → ((k : ℕ) → 1 ≤ k → k ≤ most_rules → of k ≡ true → overall_in xs k ≡ overall_in ys k) → xs ≡ ys
unfolding overall_in
same_overall of xs ys f g p q same =
    ext_get_or idle_cell xs ys (f ∙ sym g) (λ j h. here j (subst (λ (n : ℕ). j < n) f h) (of (j + 1)) refl)
  where
    here : (j : ℕ) → j < most_rules → (o : Bool) → of (j + 1) ≡ o → get_or xs j idle_cell ≡ get_or ys j idle_cell
    here j h true e =
        let n : j + 1 - 1 ≡ j = omega arith in
        ap cell_of (subst (λ (i : ℕ). (get_or xs i idle_cell).standing ≡ (get_or ys i idle_cell).standing) n (same (j + 1) (omega arith) (omega arith) e))
    here j h false e =
        let n : j + 1 - 1 ≡ j = omega arith in
        rw n at (p (j + 1) (omega arith) (omega arith) e ∙ sym (q (j + 1) (omega arith) (omega arith) e))
