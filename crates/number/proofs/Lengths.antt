-- How long a written number can be: each digit divides a bound of the number by ten.
use mathlib.Core.Path.{◌≡◌, refl}
use mathlib.Core.Bool.{Bool, true, false}
use mathlib.Core.List.{[], ◌∷◌}
use Prim.Native.Nat.{ℕ, zero, suc, ◌+◌, ◌/◌, ◌%◌, ◌^◌, ◌≤◌, ◌<◌}
use native.Mathlib.Omega.{arith}
use borrow.Author.Tests.{leb-true, ltb-true, ltb-false}
use lib.Dec.{ltb}
use lib.IntN.{ℤ, pos, negsuc}
use lib.ListN.{length, length-append}
use lib.Signed.{le_z}
use Rattle.number.specs.Written.{digits_of, integer_text}
use Rattle.number.proofs.Written.{digits_one, digits_more}

-- a number below 10 ^ (k + 1) has at most k + 1 digits
pub digits_length : (k n : ℕ) → n < 10 ^ suc k → length (digits_of n) ≤ suc k
digits_length zero n h = rw (digits_one n (omega arith)) (omega arith)
digits_length (suc k) n h = go (ltb n 10) refl (digits_length k (n / 10) (omega arith))
  where
    go : (t : Bool) → ltb n 10 ≡ t → length (digits_of (n / 10)) ≤ suc k → length (digits_of n) ≤ suc (suc k)
    go true e l = rw (digits_one n (ltb-true n 10 e)) (omega arith)
    go false e l =
        rw (digits_more n (ltb-false n 10 e), length-append (digits_of (n / 10)) ((48 + n % 10) ∷ [])) (omega arith)

-- a `-` and ten digits
pub integer_length : (z : ℤ) → le_z (negsuc 2147483647) z ≡ true → le_z z (pos 2147483647) ≡ true → length (integer_text z) ≤ 11
unfolding integer_text
integer_length (pos n) low high = omega (arith, digits_length 9 n (omega (arith, leb-true n 2147483647 high)))
integer_length (negsuc n) low high = omega (arith, digits_length 9 (suc n) (omega (arith, leb-true n 2147483647 low)))
