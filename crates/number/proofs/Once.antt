-- The reader takes each byte as it comes, and keeps a running value only: one digit more takes a
-- value below the bound to at most ten times the bound, and one from the bound on stays.
use mathlib.Core.Path.{◌≡◌, refl}
use mathlib.Core.Bool.{Bool, true, false, cond}
use mathlib.Core.List.{List, [], ◌∷◌, ◌++◌}
use Prim.Native.Nat.{ℕ, ◌+◌, ◌-◌, ◌*◌, ◌<◌}
use native.Mathlib.Omega.{arith}
use borrow.Author.Tests.{ltb-true}
use lib.Dec.{ltb, eqb}
use Rattle.number.specs.Types.{Reader, Empty, Minus, Zero, Digits, Malformed}
use Rattle.number.specs.Number.{digit}
use Rattle.number.specs.Reader.{bound, extended, first_digit, pushed, after, ReadsOnce}
use Rattle.number.proofs.Digits.{digit_high}
use Rattle.number.proofs.Answers.{answers}

-- bytes handed on in parts
parts : (r : Reader) (xs ys : List ℕ) → after (after r xs) ys ≡ after r (xs ++ ys)
unfolding after
parts r [] ys = refl
parts r (x ∷ xs) ys = parts (pushed r x) xs ys

-- ---- the running value

-- 0 where there is none
value_in : Reader → ℕ
value_in Empty = 0
value_in Minus = 0
value_in Zero = 0
value_in (Digits n v) = v
value_in Malformed = 0

first_kept : (n : Bool) (b : ℕ) → value_in (first_digit n b) < 10 * bound
unfolding first_digit value_in bound
first_kept n b = go (eqb b 48) (digit b) refl
  where
    go : (s t : Bool) → digit b ≡ t → value_in (cond s Malformed (cond t (Digits n (b - 48)) Malformed)) < 10 * bound
    go true t e = omega arith
    go false true e = omega (arith, digit_high b e)
    go false false e = omega arith

extended_kept : (v d : ℕ) → d < 10 → v < 10 * bound → extended v d < 10 * bound
unfolding extended
extended_kept v d h l = go (ltb v bound) refl
  where
    go : (t : Bool) → ltb v bound ≡ t → cond t (v * 10 + d) v < 10 * bound
    go true e = omega (arith, ltb-true v bound e)
    go false e = l

pushed_kept : (r : Reader) (b : ℕ) → value_in r < 10 * bound → value_in (pushed r b) < 10 * bound
unfolding pushed value_in
pushed_kept Empty b l = go (eqb b 45) (eqb b 48)
  where
    go : (s t : Bool) → value_in (cond s Minus (cond t Zero (first_digit false b))) < 10 * bound
    go true t = l
    go false true = l
    go false false = first_kept false b
pushed_kept Minus b l = first_kept true b
pushed_kept Zero b l = l
pushed_kept (Digits n v) b l = go (digit b) refl
  where
    go : (t : Bool) → digit b ≡ t → value_in (cond t (Digits n (extended v (b - 48))) Malformed) < 10 * bound
    go true e = extended_kept v (b - 48) (omega (arith, digit_high b e)) l
    go false e = omega arith
pushed_kept Malformed b l = l

after_kept : (r : Reader) (bs : List ℕ) → value_in r < 10 * bound → value_in (after r bs) < 10 * bound
unfolding after
after_kept r [] l = l
after_kept r (b ∷ bs) l = after_kept (pushed r b) bs (pushed_kept r b l)

kept : (bs : List ℕ) (n : Bool) (v : ℕ) → after Empty bs ≡ Digits n v → v < 10 * bound
unfolding value_in bound
kept bs n v e = rw e at (after_kept Empty bs (omega arith))

pub reads_once : ReadsOnce
reads_once = record { exact = answers; parts = parts; kept = kept }
