-- Casts of signed numbers: of 32 bits as one of 64; and to an unsigned one, of a number that is not
-- below zero and of the magnitude of one that is.
use mathlib.Core.Path.{◌≡◌, refl, ap, ◌∙◌}
use mathlib.Core.Bool.{true, false, true≢false}
use borrow.Author.Tests.{ltb-true}
use native.Mathlib.Omega.{arith}
use lib.Dec.{T}
use lib.IntN.{ℤ, pos, negsuc, neg_ℤ, nat_abs, ◌-ℤ◌, +ℤ_idl}
use lib.Signed.{lt_z, non_neg}
use mir.Syntax.{w32, w64}
use mir.Val.{Fits, SFits, to_z, of_z}
use mir.Facts.{sfits_widen, to_z-of_z}

-- a cast reads the number from its 32 bits and writes it at 64
module _ {z : ℤ} (fits : SFits w32 z) where
  pub widens : SFits w64 (to_z w32 (of_z w32 z))
  widens = rw (to_z-of_z {w = w32} {z = z} fits) (sfits_widen {w = w32} {w' = w64} {z = z} tt fits)

  pub widened : to_z w64 (of_z w64 (to_z w32 (of_z w32 z))) ≡ z
  widened = ap (λ (y : ℤ). to_z w64 (of_z w64 y)) (to_z-of_z {w = w32} {z = z} fits) ∙ to_z-of_z {w = w64} {z = z} (sfits_widen {w = w32} {w' = w64} {z = z} tt fits)

pub plain_fits : (z : ℤ) → SFits w32 z → lt_z z (pos 0) ≡ false → T (non_neg z) × Fits w32 (nat_abs z)
plain_fits (pos a) f h = (tt, record { fits = omega (arith, f.sfits) })
plain_fits (negsuc a) f h = absurd (true≢false h)

pub minus : (z : ℤ) → pos 0 -ℤ z ≡ neg_ℤ z
minus z = +ℤ_idl (neg_ℤ z)

pub minus_fits : (z : ℤ) → SFits w32 z → lt_z z (pos 0) ≡ true → SFits w64 (neg_ℤ z)
minus_fits (pos a) f h = absurd (omega (arith, ltb-true a 0 h))
minus_fits (negsuc a) f h = record { sfits = omega (arith, f.sfits) }

pub magnitude_fits : (z : ℤ) → SFits w32 z → lt_z z (pos 0) ≡ true → T (non_neg (neg_ℤ z)) × Fits w32 (nat_abs (neg_ℤ z))
magnitude_fits (pos a) f h = absurd (omega (arith, ltb-true a 0 h))
magnitude_fits (negsuc a) f h = (tt, record { fits = omega (arith, f.sfits) })

pub magnitude_same : (z : ℤ) → lt_z z (pos 0) ≡ true → nat_abs (neg_ℤ z) ≡ nat_abs z
magnitude_same (pos a) h = absurd (omega (arith, ltb-true a 0 h))
magnitude_same (negsuc a) h = refl
