-- Bytes, and at most so many: of a field, of joined parts, of a line, of a text. The two facts go
-- together, so that each law is one for both.
use Rattle.std.specs.Prelude.{None, Some}
use mathlib.Core.Path.{◌≡◌, refl}
use mathlib.Core.Bool.{Bool, true}
use mathlib.Core.List.{List, [], ◌∷◌, ◌++◌}
use Prim.Native.Nat.{ℕ, suc, ◌+◌, ◌*◌, ◌^◌, ◌≤◌, ◌<◌}
use native.Mathlib.Omega.{arith}
use borrow.Author.Tests.{lt-ltb}
use lib.IntN.{ℤ, pos, negsuc}
use lib.ListN.{length, length-append}
use lib.Signed.{le_z}
use Rattle.declare.specs.Lists.{all}
use Rattle.declare.specs.Events.{in_range, least, greatest}
use Rattle.declare.proofs.Booleans.{and₂, both, all_append}
use Rattle.number.specs.Number.{digit, digits}
use Rattle.number.specs.Written.{digits_of, integer_text}
use Rattle.number.proofs.Digits.{digit_high}
use Rattle.number.proofs.Written.{written_digits}
use Rattle.number.proofs.Lengths.{digits_length, integer_length}
use Rattle.line.specs.Types.{Reading}
use Rattle.line.specs.Fields.{LF, tab, is_byte, each_after, joined}
use Rattle.line.specs.Values.{reading_text}
use Rattle.line.specs.Texts.{written_line, written_text}

-- bytes, and at most n of them
pub record Within (n : ℕ) (s : List ℕ) : Type 0 where
  pub bytes : all is_byte s ≡ true
  pub most : length s ≤ n

pub within_none : (n : ℕ) → Within n []
unfolding all
within_none n = record { bytes = refl; most = omega arith }

pub within_more : {n : ℕ} {s : List ℕ} (b : ℕ) → is_byte b ≡ true → Within n s → Within (suc n) (b ∷ s)
unfolding all
within_more b h w = record { bytes = both h w.bytes; most = omega (arith, w.most) }

pub within_append : {m n : ℕ} {s t : List ℕ} → Within m s → Within n t → Within (m + n) (s ++ t)
within_append {s = s} {t} v w =
    record {
      bytes = all_append is_byte s t v.bytes w.bytes;
      most = rw (length-append s t) (omega (arith, v.most, w.most));
    }

pub within_most : {m n : ℕ} {s : List ℕ} → m ≤ n → Within m s → Within n s
within_most l w = record { bytes = w.bytes; most = omega (arith, w.most) }

-- ---- fields

digits_bytes : (s : List ℕ) → digits s ≡ true → all is_byte s ≡ true
unfolding digits is_byte all
digits_bytes [] h = refl
digits_bytes (b ∷ s) h =
    let p : (digit b ≡ true) × (digits s ≡ true) = and₂ h in
    both (lt-ltb b 256 (omega (arith, digit_high b p.0))) (digits_bytes s p.1)

pub number_within : (k n : ℕ) → n < 10 ^ suc k → Within (suc k) (digits_of n)
number_within k n h = record { bytes = digits_bytes (digits_of n) (written_digits n); most = digits_length k n h }

integer_bytes : (z : ℤ) → all is_byte (integer_text z) ≡ true
unfolding integer_text is_byte all
integer_bytes (pos n) = digits_bytes (digits_of n) (written_digits n)
integer_bytes (negsuc n) = digits_bytes (digits_of (suc n)) (written_digits (suc n))

pub reading_within : (r : Reading) → in_range (r) ≡ true → Within 11 (reading_text r)
unfolding in_range least greatest reading_text is_byte
reading_within None h = within_more 45 refl (within_none 10)
reading_within (Some z) h =
    let p : (le_z (negsuc 2147483647) z ≡ true) × (le_z z (pos 2147483647) ≡ true) = and₂ h in
    record { bytes = integer_bytes z; most = integer_length z p.0 p.1 }

-- ---- joined parts

-- no more parts than bounds, each within its own
infixr 5 ◌and◌
pub data Each : List ℕ → List (List ℕ) → Type 0 where
  no_more : {ns : List ℕ} → Each ns []
  ◌and◌ : {n : ℕ} {ns p : List ℕ} {ps : List (List ℕ)} → Within n p → Each ns ps → Each (n ∷ ns) (p ∷ ps)

-- the most bytes of such parts with a byte before each, and with a byte between them
abbrev each_most : List ℕ → ℕ
each_most [] = 0
each_most (n ∷ ns) = suc (n + each_most ns)

abbrev pub joined_most : List ℕ → ℕ
joined_most [] = 0
joined_most (n ∷ ns) = n + each_most ns

each_within : {ns : List ℕ} {ps : List (List ℕ)} (b : ℕ) → is_byte b ≡ true → Each ns ps → Within (each_most ns) (each_after b ps)
unfolding each_after
each_within b h no_more = within_none _
each_within b h (v and w) = within_more b h (within_append v (each_within b h w))

pub joined_within : {ns : List ℕ} {ps : List (List ℕ)} (b : ℕ) → is_byte b ≡ true → Each ns ps → Within (joined_most ns) (joined b ps)
unfolding joined
joined_within b h no_more = within_none _
joined_within b h (v and w) = within_append v (each_within b h w)

-- ---- lines and texts

module _ {A : Type 0} (fields_of : A → List (List ℕ)) (ns : List ℕ) where
  pub line_within : (r : A) → Each ns (fields_of r) → Within (joined_most ns + 1) (written_line fields_of r)
  unfolding written_line is_byte
  line_within r w = within_append (joined_within tab refl w) (within_more LF refl (within_none 0))

  -- of records that pass a test, if it sets the bounds of the fields
  pub text_within : (test : A → Bool) → ((r : A) → test r ≡ true → Each ns (fields_of r)) → (rs : List A) → all test rs ≡ true → Within ((joined_most ns + 1) * length rs) (written_text fields_of rs)
  unfolding written_text all
  text_within test f [] h = within_none _
  text_within test f (r ∷ rs) h =
      let p : (test r ≡ true) × (all test rs ≡ true) = and₂ h in
      within_most (omega arith) (within_append (line_within r (f r p.0)) (text_within test f rs p.1))
