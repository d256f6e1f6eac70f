-- The laws of `nearest`: what decides it, and that further positions do not change one that was
-- found. Those up to i are all there, and the first past i stays the first.
use mathlib.Core.Path.{◌≡◌, refl, ◌∙◌, ap, ap₂}
use mathlib.Core.Bool.{Bool, true, false, ◌&&◌}
use Prim.Native.Nat.{ℕ, zero, suc, min, ◌≤◌, ◌<◌}
use native.Mathlib.Omega.{arith}
use lib.Dec.{ltb}
use Rattle.declare.specs.Lists.{or_else, last_up_to, first_past, nearest}
use Rattle.declare.proofs.Positions.{first_same, first_stays, first_cut, first_here, past_it, not_passing, last_same, last_cut}

pub nearest_same : (p q : ℕ → Bool) (i n : ℕ) → ((k : ℕ) → 1 ≤ k → k ≤ n → p k ≡ q k) → nearest p i n ≡ nearest q i n
unfolding nearest first_past
nearest_same p q i n f =
    ap₂ or_else (last_same p q (min i n) (λ k a b. f k a (omega arith)))
    (first_same (λ j. ltb i j && p j) (λ j. ltb i j && q j) n (λ k a b. ap (λ (t : Bool). ltb i k && t) (f k a b)))

-- further positions of which none passes
pub nearest_cut : (p : ℕ → Bool) (i n N : ℕ) → n ≤ N → ((k : ℕ) → n < k → k ≤ N → p k ≡ false) → nearest p i N ≡ nearest p i n
unfolding nearest first_past
nearest_cut p i n N l f =
    ap₂ or_else (last_cut p (min i n) (min i N) (omega arith) (λ k a b. f k (omega arith) (omega arith)))
    (first_cut (λ j. ltb i j && p j) n N l (λ k a b. not_passing p i k (f k a b)))

-- ---- one up to i, or none

module _ (p : ℕ → Bool) (i n j : ℕ) (last : j ≡ last_up_to p (min i n)) where
  pub nearest_up_to : 0 < j → j ≡ nearest p i n
  unfolding nearest
  nearest_up_to l = rw (← last) (go j l)
    where
      go : (m : ℕ) → 0 < m → m ≡ or_else m (first_past p i n)
      go zero a = absurd (omega arith)
      go (suc m) a = refl

  pub nearest_past : j ≡ 0 → nearest p i n ≡ first_past p i n
  unfolding nearest
  nearest_past none = rw (← last, none)

-- ---- further positions, where i is one of the n

or_zero : (j k : ℕ) → or_else j k ≡ 0 → (j ≡ 0) × (k ≡ 0)
or_zero zero k h = (refl, h)
or_zero (suc j) k h = absurd (omega arith)

pub nearest_stays : (p : ℕ → Bool) (i n N j : ℕ) → i ≤ n → n ≤ N → nearest p i n ≡ suc j → nearest p i N ≡ suc j
unfolding nearest first_past
nearest_stays p i n N j here more h =
    let cut : min i N ≡ min i n = omega arith in
    rw cut (go (last_up_to p (min i n)) h)
  where
    go : (m : ℕ) → or_else m (first_past p i n) ≡ suc j → or_else m (first_past p i N) ≡ suc j
    go zero h = first_stays (λ j. ltb i j && p j) n N j more h
    go (suc m) h = h

pub nearest_here : (p : ℕ → Bool) (i n : ℕ) → i ≤ n → nearest p i n ≡ 0 → p (suc n) ≡ true → nearest p i (suc n) ≡ suc n
unfolding nearest first_past
nearest_here p i n here h e =
    let none : (last_up_to p (min i n) ≡ 0) × (first_past p i n ≡ 0) = or_zero (last_up_to p (min i n)) (first_past p i n) h in
    let cut : min i (suc n) ≡ min i n = omega arith in
    rw (cut, none.0) (first_here (λ j. ltb i j && p j) n none.1 (past_it p i (suc n) (omega arith) ∙ e))
