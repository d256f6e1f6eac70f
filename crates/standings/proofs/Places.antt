-- Where a rule's position stands, and which places are in use.
use mathlib.Core.Path.{◌≡◌, refl, ◌∙◌, ap}
use mathlib.Core.Bool.{Bool, true, false, cond, ◌&&◌, and-false}
use mathlib.Core.List.{List}
use Prim.Native.Nat.{ℕ, zero, suc, ◌+◌, ◌-◌, ◌*◌, ◌/◌, ◌%◌, ◌≤◌, ◌<◌}
use native.Mathlib.Omega.{arith}
use borrow.Author.Tests.{le-leb, lt-ltb, le-ltb, ltb-true}
use lib.Dec.{leb, ltb}
use lib.ListN.{get_or}
use Rattle.declare.proofs.Booleans.{and₂, both, fails}
use Rattle.declare.specs.declared.Standing.{Standing}
use Rattle.declare.specs.declared.Standing.TheVariants.{Idle}
use Rattle.declare.specs.declared.Table.{Table}
use Rattle.declare.specs.Overall.{is_overall}
use Rattle.declare.specs.Rules.{no_rule, rule_at, is_overall_rule}
use Rattle.standings.specs.declared.Cell.{Cell}
use Rattle.standings.specs.Places.{idle_cell, overall_in, zero_in, with_zero, place_of, in_use}

module _ (count n j : ℕ) where
  pub place_in_use : j / 256 < count → j % 256 < n → in_use count n j ≡ true
  unfolding in_use
  place_in_use a b = both (lt-ltb (j / 256) count a) (lt-ltb (j % 256) n b)

  past_row : n ≤ j % 256 → in_use count n j ≡ false
  unfolding in_use
  past_row a = ap (λ (t : Bool). ltb (j / 256) count && t) (le-ltb (j % 256) n a) ∙ and-false (ltb (j / 256) count)

  past_rules : count ≤ j / 256 → in_use count n j ≡ false
  unfolding in_use
  past_rules a = rw (le-ltb (j / 256) count a)

-- from a place past the n events of its row to the next row nothing is in use
pub row_rest : (count n j i : ℕ) → n ≤ j % 256 → j ≤ i → i < j + (256 - j % 256) → in_use count n i ≡ false
row_rest count n j i a b c = past_row count n i (omega arith)

-- nor past the rows of the rules
pub rules_rest : (count n i : ℕ) → count * 256 ≤ i → in_use count n i ≡ false
rules_rest count n i a = past_rules count n i (omega arith)

-- with fewer events no further place is in use
pub in_use_fewer : (rules n m j : ℕ) → n ≤ m → in_use rules m j ≡ false → in_use rules n j ≡ false
unfolding in_use
in_use_fewer rules n m j more =
    fails (ltb (j / 256) rules && ltb (j % 256) n)
    (λ u. let p : (ltb (j / 256) rules ≡ true) × (ltb (j % 256) n ≡ true) = and₂ u in
    both p.0 (lt-ltb (j % 256) m (omega (arith, ltb-true (j % 256) n p.1))))

-- ---- the place of rule k and position i

module _ (k i : ℕ) (k-low : 1 ≤ k) (i-low : 1 ≤ i) (i_high : i ≤ 256) where
  pub rule_at_lem : place_of k i / 256 + 1 ≡ k
  rule_at_lem = omega arith

  pub position_at : place_of k i % 256 + 1 ≡ i
  position_at = omega arith

  pub in_use_lem : (rules n : ℕ) → in_use rules n (place_of k i) ≡ (leb k rules && leb i n)
  unfolding in_use
  in_use_lem rules n =
      let row : place_of k i / 256 ≡ k - 1 = omega arith in
      let column : place_of k i % 256 ≡ i - 1 = omega arith in
      let a : suc (k - 1) ≡ k = omega arith in
      let b : suc (i - 1) ≡ i = omega arith in
      rw (row, column) (rw (a, b) refl)

-- ---- position 0, and those after it

pub from_one : (z : Standing) (s : ℕ → Standing) (i : ℕ) → 1 ≤ i → with_zero z s i ≡ s i
unfolding with_zero
from_one z s zero low = absurd (omega arith)
from_one z s (suc i) low = refl

-- position 0 of rule k + 1
pub zero_check : (t : Table) (k : ℕ) → k < t.count → is_overall_rule t (k + 1) ≡ is_overall (get_or t.rules k no_rule).code
unfolding is_overall_rule rule_at
zero_check t k l =
    let n : k + 1 - 1 ≡ k = omega arith in
    rw (le-leb (k + 1) t.count (omega arith), n) refl

pub zero_cell : (overall : List Cell) (k : ℕ) → overall_in overall (k + 1) ≡ (get_or overall k idle_cell).standing
unfolding overall_in
zero_cell overall k =
    let n : k + 1 - 1 ≡ k = omega arith in
    ap (λ (i : ℕ). (get_or overall i idle_cell).standing) n

pub zero_is : (t : Table) (overall : List Cell) (k : ℕ) → k < t.count → cond (is_overall (get_or t.rules k no_rule).code) (get_or overall k idle_cell).standing Idle ≡ zero_in t overall (k + 1)
unfolding zero_in
zero_is t overall k l = rw (zero_check t k l, zero_cell overall k) refl
