-- A field that is written reads back as its value, and a value that was read is written as the same
-- field.
use Rattle.std.specs.Prelude.{None, Some, Result, Ok, Err}
use mathlib.Core.Path.{◌≡◌, refl, sym, ◌∙◌, ap}
use mathlib.Core.Bool.{Bool, true, false, ◌&&◌, false≢true}
use mathlib.Core.List.{List, [], ◌∷◌}
use Prim.Native.Nat.{ℕ, suc, ◌≤◌, ◌<◌}
use native.Mathlib.Omega.{arith}
use borrow.Author.Tests.{ne_eqb, eqb-true}
use lib.Dec.{eqb}
use lib.IntN.{ℤ, pos, negsuc}
use lib.Signed.{le_z}
use Rattle.declare.specs.Events.{in_range, least, greatest}
use Rattle.declare.proofs.Booleans.{and_left, and_right}
use Rattle.number.specs.Number.{none, dash, natural_of, in_signed_range, integer_of}
use Rattle.number.specs.Written.{digits_of, integer_text}
use Rattle.number.proofs.Results.{no_err}
use Rattle.number.proofs.Written.{written_digits, read_natural, read_integer, integer_not_dash, NaturalRead, natural_read, integer_read}
use Rattle.line.specs.Types.{Reading, Fault}
use Rattle.declare.specs.Answers.{accepted}
use Rattle.line.specs.Values.{number_field, reading_field, reading_text}
use Rattle.declare.proofs.Answers.{no_of, of_of}
use Rattle.line.proofs.Joined.{lacks, lacks_digits}

-- ---- numbers

pub number_written : (low high n : ℕ) → low ≤ n → n ≤ high → number_field low high (digits_of n) ≡ accepted n
unfolding number_field
number_written low high n l h = rw (read_natural low high n l h)

pub number_read : (low high : ℕ) (field : List ℕ) (n : ℕ) → number_field low high field ≡ accepted n → NaturalRead low high field n
unfolding number_field
number_read low high field n h = go (natural_of low high field) refl
  where
    go : (a : Result ℕ Fault) → natural_of low high field ≡ a → NaturalRead low high field n
    go (Ok v) e = natural_read low high field n (e ∙ ap Ok (of_of (rw e at h)))
    go (Err f) e = absurd (no_of (rw e at h))

pub lacks_number : (b n : ℕ) → b < 45 → lacks b (digits_of n) ≡ true
lacks_number b n h = lacks_digits b (digits_of n) (omega arith) (written_digits n)

-- ---- readings

pub in_range_lem : (z : ℤ) → in_range (Some z) ≡ true → in_signed_range z ≡ Ok z
unfolding in_range least greatest in_signed_range
in_range_lem z h = rw h

pub in_signed_range_lem : (z : ℤ) → in_signed_range z ≡ Ok z → in_range (Some z) ≡ true
unfolding in_range least greatest in_signed_range
in_signed_range_lem z h = go (le_z least z && le_z z greatest) refl
  where
    go : (t : Bool) → (le_z least z && le_z z greatest) ≡ t → t ≡ true
    go true p = refl
    go false p = absurd (no_err (sym (rw p at h)))

pub reading_written : (r : Reading) → in_range r ≡ true → reading_field (reading_text r) ≡ accepted r
unfolding reading_field reading_text dash none
reading_written None h = refl
reading_written (Some z) h = rw (integer_not_dash z, read_integer z, in_range_lem z h)

pub dash_text : (field : List ℕ) → dash field ≡ true → 45 ∷ [] ≡ field
unfolding dash none
dash_text [] h = absurd (false≢true h)
dash_text (b ∷ []) h = ap (λ (k : ℕ). k ∷ []) (sym (eqb-true b 45 (and_left (eqb b 45) true h)))
dash_text (b ∷ x ∷ bs) h = absurd (false≢true (and_right (eqb b 45) false h))

-- a reading that was read: it is written as the field, and is in its range
pub record ReadingRead (field : List ℕ) (r : Reading) : Type 0 where
  pub text : reading_text r ≡ field
  pub range : in_range r ≡ true

blank_read : (field : List ℕ) → dash field ≡ true → ReadingRead field None
unfolding reading_text in_range
blank_read field p = record { text = dash_text field p; range = refl }

value_read : (field : List ℕ) (z : ℤ) → integer_of field ≡ Ok z → ReadingRead field (Some z)
unfolding reading_text
value_read field z p =
    let w = integer_read field z p in
    record { text = w.text; range = in_signed_range_lem z w.range }

pub reading_read_lem : (field : List ℕ) (r : Reading) → reading_field field ≡ accepted r → ReadingRead field r
unfolding reading_field
reading_read_lem field r h = go (dash field) (integer_of field) refl refl
  where
    go : (t : Bool) (a : Result ℤ Fault) → dash field ≡ t → integer_of field ≡ a → ReadingRead field r
    go true a p q = rw (← of_of (rw p at h)) (blank_read field p)
    go false (Err f) p q = absurd (no_of (rw (p, q) at h))
    go false (Ok z) p q =
        let e : Some z ≡ r = of_of (rw (p, q) at h) in
        rw (← e) (value_read field z q)

pub lacks_reading : (b : ℕ) (r : Reading) → b < 45 → lacks b (reading_text r) ≡ true
unfolding reading_text integer_text lacks
lacks_reading b None h = rw (ne_eqb 45 b (λ e. omega arith))
lacks_reading b (Some (pos n)) h = lacks_number b n h
lacks_reading b (Some (negsuc n)) h = rw (ne_eqb 45 b (λ e. omega arith)) (lacks_number b (suc n) h)
