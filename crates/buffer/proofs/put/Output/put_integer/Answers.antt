-- By the sign.
use mathlib.Core.Path.{◌≡◌, refl}
use mathlib.Core.Bool.{true, false, true≢false}
use mathlib.Core.List.{◌∷◌}
use native.Mathlib.Omega.{arith}
use borrow.Author.Tests.{ltb-true}
use lib.IntN.{ℤ, pos, negsuc, nat_abs}
use lib.Signed.{lt_z}
use mir.Syntax.{w32}
use mir.Facts.{to_z-of_z}
use Rattle.number.specs.Number.{hyphen}
use Rattle.number.specs.Written.{digits_of, integer_text}
use Rattle.buffer.proofs.Puts.{put_then, put_as}
use Rattle.buffer.proofs.put.Output.put_integer.Goals as goal
use Rattle.buffer.proofs.put.Output.put_integer.Goals.{then-z-lt0, else-z-lt0}

below : (z : ℤ) → lt_z z (pos 0) ≡ true → hyphen ∷ digits_of (nat_abs z) ≡ integer_text z
unfolding integer_text
below (pos n) h = absurd (omega (arith, ltb-true n 0 h))
below (negsuc n) h = refl

not_below : (z : ℤ) → lt_z z (pos 0) ≡ false → digits_of (nat_abs z) ≡ integer_text z
unfolding integer_text
not_below (pos n) h = refl
not_below (negsuc n) h = absurd (true≢false h)

pub returns : goal.returns
returns c =
    let same = to_z-of_z {w = w32} {z = c.args.z} c.ranges.z in
    let digits = rw (c.unsigned_abs.ensures.value, same) at c.put_number.ensures in
    elim c.if-z-lt0.branch [
      | then-z-lt0 w ↦ put_as (below c.args.z (rw same at w.if-z-lt0.true)) (put_then w.put_byte.ensures (rw w.self-is at digits))
      | else-z-lt0 w ↦ put_as (not_below c.args.z (rw same at w.if-z-lt0.false)) (rw w.self-is at digits)
    ]
