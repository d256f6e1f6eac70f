-- The first position that passes, by what is known at each; and by the place that `position` finds.
use mathlib.Core.Path.{◌≡◌, refl, ◌∙◌}
use mathlib.Core.Bool.{Bool, true, false, cond}
use mathlib.Core.List.{List}
use Prim.Native.Nat.{ℕ, zero, suc, ◌≤◌, ◌<◌}
use native.Mathlib.Omega.{arith}
use borrow.Author.Tests.{ltb-true, ltb-false}
use lib.Dec.{ltb}
use lib.ListN.{length, get_or}
use Rattle.std.specs.Prelude.{Some, None}
use Rattle.std.specs.List.{position, position_or_len}
use Rattle.std.proofs.lemmas.List.Sums.{fails_before_first, passes_at_first}
use Rattle.declare.specs.Lists.{first_up_to}
use Rattle.declare.proofs.Positions.{first_stays, first_cut, first_here}

pub first_none : (p : ℕ → Bool) (n : ℕ) → ((k : ℕ) → 1 ≤ k → k ≤ n → p k ≡ false) → first_up_to p n ≡ 0
first_none p n f = first_cut p 0 n (omega arith) f ∙ unfold first_up_to in refl

pub first_is : (p : ℕ → Bool) (m n : ℕ) → m < n → ((k : ℕ) → 1 ≤ k → k ≤ m → p k ≡ false) → p (suc m) ≡ true → first_up_to p n ≡ suc m
first_is p m n l f t = first_stays p (suc m) n m l (first_here p m (first_none p m f) t)

-- positions by the places before them
pub passed : (p : ℕ → Bool) {n : ℕ} → ((k : ℕ) → k < n → p (suc k) ≡ false) → (j : ℕ) → 1 ≤ j → j ≤ n → p j ≡ false
passed p f zero a b = absurd (omega arith)
passed p f (suc k) a b = f k (omega arith)

-- the first place of a list that passes
module _ {X : Type 0} (test : X → Bool) (xs : List X) (d : X) where
  abbrev first : ℕ
  first = position_or_len test xs

  pub none_passes : None ≡ position test xs → (k : ℕ) → k < length xs → test (get_or xs k d) ≡ false
  none_passes e k l = fails_before_first test xs k d (go (ltb first (length xs)) refl e)
    where
      go : (b : Bool) → ltb first (length xs) ≡ b → None ≡ cond b (Some first) None → k < first
      go true q e = cc
      go false q e = omega (arith, ltb-false first (length xs) q)

  pub first_passes : (i : ℕ) → Some i ≡ position test xs → (i < length xs) × (test (get_or xs i d) ≡ true) × ((k : ℕ) → k < i → test (get_or xs k d) ≡ false)
  first_passes i e = go (ltb first (length xs)) refl e
    where
      go : (b : Bool) → ltb first (length xs) ≡ b → Some i ≡ cond b (Some first) None → (i < length xs) × (test (get_or xs i d) ≡ true) × ((k : ℕ) → k < i → test (get_or xs k d) ≡ false)
      go true q e =
          let here : i ≡ first = cc in
          let low = ltb-true first (length xs) q in
          (omega arith, rw here (passes_at_first test xs d low), λ k l. fails_before_first test xs k d (omega arith))
      go false q e = cc
