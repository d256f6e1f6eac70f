-- Laws of digits and of the number form, by the first byte; what a reader after further digits
-- keeps of their value.
use mathlib.Core.Path.{◌≡◌, refl}
use mathlib.Core.Bool.{Bool, true, false, ◌&&◌, ◌||◌, false≢true}
use mathlib.Core.List.{List, [], ◌∷◌}
use Prim.Native.Nat.{ℕ, ◌+◌, ◌≤◌, ◌<◌}
use native.Mathlib.Omega.{arith}
use borrow.Author.Tests.{leb-true, le-leb, eqb-true}
use lib.Dec.{leb, eqb}
use Rattle.number.specs.Number.{digit, digits, none, zero_alone, positive, negative, natural_form, integer_form}

pub and_left : (a b : Bool) → (a && b) ≡ true → a ≡ true
and_left true b h = refl
and_left false b h = h

pub and_right : (a b : Bool) → (a && b) ≡ true → b ≡ true
and_right true b h = h
and_right false b h = absurd (false≢true h)

-- ---- a digit

module _ (b : ℕ) (h : digit b ≡ true) where
  pub digit_low : 48 ≤ b
  unfolding digit
  digit_low = leb-true 48 b (and_left (leb 48 b) (leb b 57) h)

  pub digit_high : b ≤ 57
  unfolding digit
  digit_high = leb-true b 57 (and_right (leb 48 b) (leb b 57) h)

pub is_digit : (d : ℕ) → d < 10 → digit (48 + d) ≡ true
unfolding digit
is_digit d h = simp (le-leb 48 (48 + d) (omega arith), le-leb (48 + d) 57 (omega arith))

-- ---- the forms, by the first byte

pub natural_empty : natural_form [] ≡ false
unfolding natural_form zero_alone positive
natural_empty = refl

pub integer_empty : integer_form [] ≡ false
unfolding integer_form negative
integer_empty = rw natural_empty

module _ (b : ℕ) (bs : List ℕ) where
  -- `0`, then nothing
  pub natural_zero : eqb b 48 ≡ true → natural_form (b ∷ bs) ≡ none bs
  unfolding natural_form zero_alone positive
  natural_zero h = rw h (go (none bs))
    where
      go : (t : Bool) → (t || false) ≡ t
      go true = refl
      go false = refl

  pub natural_digit : eqb b 48 ≡ false → natural_form (b ∷ bs) ≡ (digit b && digits bs)
  unfolding natural_form zero_alone positive
  natural_digit h = rw h

  pub positive_zero : eqb b 48 ≡ true → positive (b ∷ bs) ≡ false
  unfolding positive
  positive_zero h = rw h

  pub positive_digit : eqb b 48 ≡ false → positive (b ∷ bs) ≡ (digit b && digits bs)
  unfolding positive
  positive_digit h = rw h

  -- a `-` is neither `0` nor a digit
  pub natural_dash : eqb b 45 ≡ true → natural_form (b ∷ bs) ≡ false
  unfolding natural_form zero_alone positive digit
  natural_dash h = rw (eqb-true b 45 h)

  pub integer_dash : eqb b 45 ≡ true → integer_form (b ∷ bs) ≡ positive bs
  unfolding integer_form negative
  integer_dash h = rw (natural_dash h, h)

  pub integer_natural : eqb b 45 ≡ false → integer_form (b ∷ bs) ≡ natural_form (b ∷ bs)
  unfolding integer_form negative
  integer_natural h = rw h (go (natural_form (b ∷ bs)))
    where
      go : (t : Bool) → (t || false) ≡ t
      go true = refl
      go false = refl
