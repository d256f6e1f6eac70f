-- Totals: one position more, their bounds, and their sum.
use mathlib.Core.Path.{◌≡◌, refl, sym, ap, ap₂, ◌∙◌}
use mathlib.Core.Bool.{Bool, not}
use mathlib.Core.List.{List}
use Prim.Native.Nat.{ℕ, zero, suc, ◌+◌, ◌-◌, ◌≤◌, ◌<◌}
use native.Mathlib.Nat.{add-zero}
use native.Mathlib.Numerals.{add-one}
use native.Mathlib.Omega.{arith}
use lib.ListN.{get_or}
use Rattle.declare.specs.declared.Standing.{Standing}
use Rattle.declare.specs.declared.Standing.TheVariants.{Idle, Open, Fulfilled, Violated}
use Rattle.declare.specs.Lists.{count_below, bit}
use Rattle.declare.specs.Standings.{is_idle, is_open, is_fulfilled, is_violated}
use Rattle.declare.proofs.Sweeps.{count_le}
use Rattle.standings.specs.declared.Cell.{Cell}
use Rattle.standings.specs.Places.{idle_cell, standing_from, with_zero}
use Rattle.standings.specs.declared.totals.Totals.{Totals}
use Rattle.declare.proofs.Lists.{count_same}
use Rattle.standings.specs.Totals.{positions_of, totals_by, no_totals, one_more, with_standing}

-- one more, in the 16 bits that a total has
one_more_lem : (n : ℕ) → n < 65535 → one_more n ≡ n + 1
one_more_lem n h = omega arith

-- position 0
pub totals_first : (s : ℕ → Standing) → with_standing no_totals (s 0) ≡ totals_by s 0
unfolding totals_by positions_of count_below with_standing
totals_first s = go (s 0) refl
  where
    go : (x : Standing) → s 0 ≡ x → with_standing no_totals (s 0) ≡ totals_by s 0
    go Idle e = rw e refl
    go Open e = rw e refl
    go (Fulfilled j) e = rw e refl
    go (Violated j) e = rw e refl

-- one position more, as long as 16 bits hold the counts
pub totals_next : (s : ℕ → Standing) (n : ℕ) → n < 65534 → with_standing (totals_by s n) (s (suc n)) ≡ totals_by s (suc n)
unfolding totals_by positions_of count_below with_standing
totals_next s n h = go (s (suc n)) refl
  where
    more : (p : Standing → Bool) → one_more (count_below (λ k. p (s k)) (suc n)) ≡ count_below (λ k. p (s k)) (suc n) + 1
    more p = one_more_lem _ (let l = count_le (λ k. p (s k)) (suc n) in omega arith)

    go : (x : Standing) → s (suc n) ≡ x → with_standing (totals_by s n) (s (suc n)) ≡ totals_by s (suc n)
    go Idle e = rw e (simp add-zero)
    go Open e = rw (e, more (λ x. not (is_idle x)), more is_open) (simp add-zero)
    go (Fulfilled j) e = rw (e, more (λ x. not (is_idle x)), more is_fulfilled) (simp add-zero)
    go (Violated j) e = rw (e, more (λ x. not (is_idle x)), more is_violated) (simp add-zero)

-- one place more of a row
pub next_place : (z : Standing) (cells : List Cell) (first p : ℕ) → (get_or cells (first + p) idle_cell).standing ≡ with_zero z (standing_from cells first) (suc p)
unfolding with_zero standing_from
next_place z cells first p = ap (λ (i : ℕ). (get_or cells (first + i) idle_cell).standing) back
  where
    back : p ≡ suc p - 1
    back = omega arith

pub totals_again : (z : Standing) (cells : List Cell) (first p : ℕ) {t u : Totals} {s : Standing} → p < 65534 → t ≡ totals_by (with_zero z (standing_from cells first)) p → s ≡ (get_or cells (first + p) idle_cell).standing → u ≡ with_standing t s → u ≡ totals_by (with_zero z (standing_from cells first)) (p + 1)
totals_again z cells first p l e h g =
    let row : ℕ → Standing = with_zero z (standing_from cells first) in
    g ∙ ap₂ with_standing e (h ∙ next_place z cells first p) ∙ totals_next row p l ∙ ap (totals_by row) (sym (add-one p))

pub record Small (t : Totals) (n : ℕ) : Type 0 where
  pub activations : t.activations ≤ n
  pub fulfilled : t.fulfilled ≤ n
  pub violated : t.violated ≤ n
  pub «open» : t.«open» ≤ n

-- no total is above the number of positions
pub totals_small : (s : ℕ → Standing) (n : ℕ) {t : Totals} → t ≡ totals_by s n → Small t (suc n)
unfolding totals_by positions_of
totals_small s n {t} e =
    rw e
    (record { activations = count_le _ (suc n); fulfilled = count_le _ (suc n); violated = count_le _ (suc n); «open» = count_le _ (suc n) })

-- ---- what the totals count

-- equal standings, equal totals
pub totals_same : (s u : ℕ → Standing) (n : ℕ) → ((i : ℕ) → i ≤ n → s i ≡ u i) → totals_by s n ≡ totals_by u n
unfolding totals_by positions_of
totals_same s u n f = rw (each (λ x. not (is_idle x)), each is_fulfilled, each is_violated, each is_open) refl
  where
    each : (p : Standing → Bool) → count_below (λ k. p (s k)) (suc n) ≡ count_below (λ k. p (u k)) (suc n)
    each p = count_same (λ k. p (s k)) (λ k. p (u k)) (suc n) (λ k l. ap p (f k (omega arith)))

bit_sum : (s : Standing) → bit (not (is_idle s)) ≡ bit (is_fulfilled s) + bit (is_violated s) + bit (is_open s)
bit_sum Idle = refl
bit_sum Open = refl
bit_sum (Fulfilled j) = refl
bit_sum (Violated j) = refl

-- every position that is not idle is fulfilled, violated or open
pub totals_sum : (s : ℕ → Standing) (n : ℕ) → (totals_by s n).activations ≡ (totals_by s n).fulfilled + (totals_by s n).violated + (totals_by s n).«open»
unfolding totals_by positions_of count_below
totals_sum s zero = omega (arith, bit_sum (s 0))
totals_sum s (suc n) = omega (arith, totals_sum s n, bit_sum (s (suc n)))

pub totals_activations : (s : ℕ → Standing) (a : ℕ → Bool) (n : ℕ) → ((i : ℕ) → not (is_idle (s i)) ≡ a i) → (totals_by s n).activations ≡ count_below a (suc n)
unfolding totals_by positions_of
totals_activations s a n f = count_same (λ p. not (is_idle (s p))) a (suc n) (λ p l. f p)
