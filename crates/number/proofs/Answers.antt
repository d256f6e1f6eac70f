-- The reader's answer for the bytes so far is document 01's, for every list of bytes. After further
-- digits the reader keeps a value that no range tells from the true one: both are exact, or both
-- are at the bound or above.
use mathlib.Core.Path.{◌≡◌, refl, sym, ◌∙◌, ap}
use mathlib.Core.Bool.{Bool, true, false, cond, ◌&&◌}
use mathlib.Core.Logic.{◌⊎◌, inl, inr, ⊎_elim}
use mathlib.Core.List.{List, [], ◌∷◌}
use Prim.Native.Nat.{ℕ, zero, suc, ◌+◌, ◌-◌, ◌*◌, ◌≤◌, ◌<◌, min}
use native.Mathlib.Omega.{arith}
use borrow.Author.Tests.{ltb-true, ltb-false, lt-leb, eqb-true}
use lib.Dec.{leb, ltb, eqb}
use lib.IntN.{pos, neg_ℤ}
use Rattle.std.specs.Prelude.{Ok, Err}
use Rattle.number.specs.Types.{Empty, Minus, Zero, Digits, Malformed, Form, Range}
use Rattle.number.specs.Number.{digit, digits, none, positive, dash, value_from, value_of, integer_value, in_natural_range, natural_of, in_signed_range, integer_of}
use Rattle.number.specs.Reader.{bound, extended, first_digit, pushed, after, natural_in, integer_in, dash_in, AnswersExactly}
use Rattle.number.proofs.Digits.{natural_empty, integer_empty, natural_zero, natural_digit, natural_dash, positive_zero, positive_digit, integer_dash, integer_natural}

-- ---- the reader after further bytes

malformed_after : (bs : List ℕ) → after Malformed bs ≡ Malformed
unfolding after pushed
malformed_after [] = refl
malformed_after (b ∷ bs) = malformed_after bs

-- the value that the reader keeps of digits that follow those of the value v
kept_from : ℕ → List ℕ → ℕ
kept_from v [] = v
kept_from v (b ∷ bs) = kept_from (extended v (b - 48)) bs

digits_after : (n : Bool) (v : ℕ) (bs : List ℕ) → after (Digits n v) bs ≡ cond (digits bs) (Digits n (kept_from v bs)) Malformed
unfolding after pushed digits kept_from
digits_after n v [] = refl
digits_after n v (b ∷ bs) = go (digit b) refl (digits_after n (extended v (b - 48)) bs)
  where
    go : (t : Bool) → digit b ≡ t → after (Digits n (extended v (b - 48))) bs ≡ cond (digits bs) (Digits n (kept_from (extended v (b - 48)) bs)) Malformed → after (Digits n v) (b ∷ bs) ≡ cond (digits (b ∷ bs)) (Digits n (kept_from v (b ∷ bs))) Malformed
    go true e h = rw e h
    go false e h = rw e (malformed_after bs)

first_after : (n : Bool) (b : ℕ) (bs : List ℕ) → after (first_digit n b) bs ≡ cond (positive (b ∷ bs)) (Digits n (kept_from (b - 48) bs)) Malformed
unfolding first_digit
first_after n b bs = go (eqb b 48) (digit b) refl refl
  where
    go : (s t : Bool) → eqb b 48 ≡ s → digit b ≡ t → after (first_digit n b) bs ≡ cond (positive (b ∷ bs)) (Digits n (kept_from (b - 48) bs)) Malformed
    go true t p q = rw (p, positive_zero b bs p) (malformed_after bs)
    go false true p q = rw (p, positive_digit b bs p, q) (digits_after n (b - 48) bs)
    go false false p q = rw (p, positive_digit b bs p, q) (malformed_after bs)

zero_after : (bs : List ℕ) → after Zero bs ≡ cond (none bs) Zero Malformed
unfolding after pushed none
zero_after [] = refl
zero_after (b ∷ bs) = malformed_after bs

-- ---- values that no range tells apart

kept_value : (v w : ℕ) (bs : List ℕ) → min v bound ≡ min w bound → min (kept_from v bs) bound ≡ min (value_from w bs) bound
unfolding kept_from value_from extended
kept_value v w [] h = h
kept_value v w (b ∷ bs) h = kept_value (extended v (b - 48)) (w * 10 + (b - 48)) bs (go (ltb v bound) refl)
  where
    go : (t : Bool) → ltb v bound ≡ t → min (extended v (b - 48)) bound ≡ min (w * 10 + (b - 48)) bound
    go true e = rw e (omega (arith, ltb-true v bound e))
    go false e = rw e (omega (arith, ltb-false v bound e))

kept_first : (b : ℕ) (bs : List ℕ) → min (kept_from (b - 48) bs) bound ≡ min (value_of (b ∷ bs)) bound
unfolding value_of value_from
kept_first b bs = kept_value (b - 48) (0 * 10 + (b - 48)) bs (omega arith)

exact_or_above : (v w : ℕ) → min v bound ≡ min w bound → (v ≡ w) ⊎ ((bound ≤ v) × (bound ≤ w))
exact_or_above v w h = go (ltb v bound) refl
  where
    go : (t : Bool) → ltb v bound ≡ t → (v ≡ w) ⊎ ((bound ≤ v) × (bound ≤ w))
    go true e = inl (omega (arith, ltb-true v bound e))
    go false e = inr (ltb-false v bound e, omega (arith, ltb-false v bound e))

natural_above : (low high v : ℕ) → high < bound → bound ≤ v → in_natural_range low high v ≡ Err Range
unfolding in_natural_range
natural_above low high v h l = rw (lt-leb v high (omega arith)) (go (leb low v))
  where
    go : (t : Bool) → cond (t && false) (Ok v) (Err Range) ≡ Err Range
    go true = refl
    go false = refl

signed_low : (v : ℕ) → 2147483648 < v → in_signed_range (neg_ℤ (pos v)) ≡ Err Range
unfolding in_signed_range
signed_low zero h = absurd (omega arith)
signed_low (suc v) h = simp (lt-leb v 2147483647 (omega arith))

signed_high : (v : ℕ) → 2147483647 < v → in_signed_range (pos v) ≡ Err Range
unfolding in_signed_range
signed_high v h = simp (lt-leb v 2147483647 h)

module _ (v w : ℕ) (same : min v bound ≡ min w bound) where
  natural_same : (low high : ℕ) → high < bound → in_natural_range low high v ≡ in_natural_range low high w
  natural_same low high h =
      ⊎_elim (ap (in_natural_range low high)) (λ l. natural_above low high v h l.0 ∙ sym (natural_above low high w h l.1)) (exact_or_above v w same)

  up_same : in_signed_range (pos v) ≡ in_signed_range (pos w)
  unfolding bound
  up_same =
      ⊎_elim (ap (λ (x : ℕ). in_signed_range (pos x))) (λ l. signed_high v (omega arith) ∙ sym (signed_high w (omega arith))) (exact_or_above v w same)

  down_same : in_signed_range (neg_ℤ (pos v)) ≡ in_signed_range (neg_ℤ (pos w))
  unfolding bound
  down_same =
      ⊎_elim (ap (λ (x : ℕ). in_signed_range (neg_ℤ (pos x)))) (λ l. signed_low v (omega arith) ∙ sym (signed_low w (omega arith))) (exact_or_above v w same)

-- ---- unsigned numbers

module _ (low high : ℕ) where
  natural_minus : (bs : List ℕ) → natural_in low high (after Minus bs) ≡ Err Form
  unfolding after pushed natural_in
  natural_minus [] = refl
  natural_minus (b ∷ bs) = rw (first_after true b bs) (go (positive (b ∷ bs)))
    where
      go : (t : Bool) → natural_in low high (cond t (Digits true (kept_from (b - 48) bs)) Malformed) ≡ Err Form
      go true = refl
      go false = refl

  natural_zeros : (bs : List ℕ) → natural_in low high (after Zero bs) ≡ cond (none bs) (in_natural_range low high (value_from 0 bs)) (Err Form)
  unfolding none natural_in value_from
  natural_zeros [] = rw (zero_after [])
  natural_zeros (b ∷ bs) = rw (zero_after (b ∷ bs))

  module _ (h : high < bound) where
    natural_after : (bs : List ℕ) → natural_in low high (after Empty bs) ≡ natural_of low high bs
    unfolding after pushed natural_in natural_of value_of value_from
    natural_after [] = rw natural_empty
    natural_after (b ∷ bs) = go (eqb b 45) (eqb b 48) (digit b && digits bs) refl refl refl
      where
        go : (r s t : Bool) → eqb b 45 ≡ r → eqb b 48 ≡ s → (digit b && digits bs) ≡ t → natural_in low high (after Empty (b ∷ bs)) ≡ natural_of low high (b ∷ bs)
        go true s t o p q = rw (o, natural_dash b bs o) (natural_minus bs)
        go false true t o p q = rw (eqb-true b 48 p, natural_zero 48 bs refl) (natural_zeros bs)
        go false false true o p q = rw (o, p, first_after false b bs, positive_digit b bs p, natural_digit b bs p, q) (natural_same _ _ (kept_first b bs) low high h)
        go false false false o p q = rw (o, p, first_after false b bs, positive_digit b bs p, natural_digit b bs p, q)

-- ---- signed numbers

integer_minus : (bs : List ℕ) → integer_in (after Minus bs) ≡ cond (positive bs) (in_signed_range (neg_ℤ (pos (value_of bs)))) (Err Form)
unfolding after pushed integer_in positive
integer_minus [] = refl
integer_minus (b ∷ bs) = rw (first_after true b bs) (go (positive (b ∷ bs)))
  where
    go : (t : Bool) → integer_in (cond t (Digits true (kept_from (b - 48) bs)) Malformed) ≡ cond t (in_signed_range (neg_ℤ (pos (value_of (b ∷ bs))))) (Err Form)
    go true = down_same _ _ (kept_first b bs)
    go false = refl

integer_zeros : (bs : List ℕ) → integer_in (after Zero bs) ≡ cond (none bs) (in_signed_range (pos (value_from 0 bs))) (Err Form)
unfolding none integer_in value_from
integer_zeros [] = rw (zero_after [])
integer_zeros (b ∷ bs) = rw (zero_after (b ∷ bs))

integer_after : (bs : List ℕ) → integer_in (after Empty bs) ≡ integer_of bs
unfolding after pushed integer_in integer_of integer_value value_of value_from
integer_after [] = rw integer_empty
integer_after (b ∷ bs) = go (eqb b 45) (eqb b 48) (digit b && digits bs) refl refl refl
  where
    go : (r s t : Bool) → eqb b 45 ≡ r → eqb b 48 ≡ s → (digit b && digits bs) ≡ t → integer_in (after Empty (b ∷ bs)) ≡ integer_of (b ∷ bs)
    go true s t o p q = rw (o, integer_dash b bs o) (integer_minus bs)
    go false true t o p q = rw (eqb-true b 48 p, integer_natural 48 bs refl, natural_zero 48 bs refl) (integer_zeros bs)
    go false false true o p q = rw (o, p, first_after false b bs, positive_digit b bs p, integer_natural b bs o, natural_digit b bs p, q) (up_same _ _ (kept_first b bs))
    go false false false o p q = rw (o, p, first_after false b bs, positive_digit b bs p, integer_natural b bs o, natural_digit b bs p, q)

-- ---- `-` alone

not_dash : (n t : Bool) (v : ℕ) → dash_in (cond t (Digits n v) Malformed) ≡ false
unfolding dash_in
not_dash n true v = refl
not_dash n false v = refl

dash_minus : (bs : List ℕ) → dash_in (after Minus bs) ≡ none bs
unfolding after pushed dash_in none
dash_minus [] = refl
dash_minus (b ∷ bs) = rw (first_after true b bs) (not_dash true (positive (b ∷ bs)) (kept_from (b - 48) bs))

dash_zeros : (bs : List ℕ) → dash_in (after Zero bs) ≡ false
unfolding dash_in none
dash_zeros [] = rw (zero_after [])
dash_zeros (b ∷ bs) = rw (zero_after (b ∷ bs))

dash_after : (bs : List ℕ) → dash_in (after Empty bs) ≡ dash bs
unfolding after pushed dash dash_in
dash_after [] = refl
dash_after (b ∷ bs) = go (eqb b 45) (eqb b 48) refl refl
  where
    go : (r s : Bool) → eqb b 45 ≡ r → eqb b 48 ≡ s → dash_in (after Empty (b ∷ bs)) ≡ dash (b ∷ bs)
    go true s o p = rw o (dash_minus bs)
    go false true o p = rw (o, p) (dash_zeros bs)
    go false false o p = rw (o, p, first_after false b bs) (not_dash false (positive (b ∷ bs)) (kept_from (b - 48) bs))

-- the theorem about every list of bytes
pub answers : (bs : List ℕ) → AnswersExactly bs
answers bs = record {
  natural = λ low high h. natural_after low high h bs;
  integer = integer_after bs;
  dashed = dash_after bs;
}
