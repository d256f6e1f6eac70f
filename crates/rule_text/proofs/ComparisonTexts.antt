-- A comparison that is written reads back as itself; one that was read is written as the same
-- bytes, and is within its limits.
use Rattle.std.specs.Prelude.{Some, Result, Ok, Err}
use mathlib.Core.Path.{◌≡◌, refl, sym, ◌∙◌, ap}
use mathlib.Core.Bool.{Bool, true, false, cond, ◌&&◌}
use mathlib.Core.List.{List, [], ◌∷◌}
use Prim.Native.Nat.{ℕ, ◌+◌, ◌-◌}
use native.Mathlib.Omega.{arith}
use borrow.Author.Tests.{eqb-true, ne_eqb, leb-true, le-leb}
use lib.Dec.{leb, eqb}
use lib.IntN.{ℤ, pos, negsuc}
use lib.ListN.{get_or}
use Rattle.declare.specs.Events.{in_range}
use Rattle.declare.specs.Rules.{is_reading, valid_reference, valid_comparison}
use Rattle.declare.proofs.Booleans.{and_left, and_right, both, both₃, and₂, and₃}
use Rattle.declare.proofs.Satisfiability.{one_of_four}
use Rattle.number.specs.Number.{digit, digits, integer_of}
use Rattle.number.specs.Written.{digits_in, digits_of, integer_text}
use Rattle.number.proofs.Digits.{digit_high}
use Rattle.number.proofs.Written.{written_digits, read_integer, integer_read}
use Rattle.declare.specs.Answers.{Answer, accepted, ◌>>=◌, ◌>>◌, require}
use Rattle.declare.proofs.Answers.{no_of, of_of, through, required}
use Rattle.line.proofs.Values.{in_range_lem, in_signed_range_lem}
use Rattle.rule_text.specs.Types.{Operator, Equal, NotEqual, Less, AtMost, Greater, AtLeast, Reference, Constant, Activation, Comparison, Fault}
use Rattle.rule_text.specs.Comparisons.{operator_byte, reading_digit, digit_of, operator_of, k_answer, k_field, constant_field, activation_field, reference_field, comparison_field}
use Rattle.rule_text.specs.Written.{reference_text, comparison_text}

-- ---- a reading's digit

pub reading_digit_lem : (r : ℕ) → is_reading r ≡ true → digits_of r ≡ (48 + r) ∷ []
unfolding digits_of digits_in
reading_digit_lem r h = one_of_four (λ k. digits_of k ≡ (48 + k) ∷ []) refl refl refl refl r h

digit_written : (r : ℕ) → is_reading r ≡ true → digit_of (48 + r) ≡ accepted r
unfolding digit_of reading_digit require ◌>>◌
digit_written r h = one_of_four (λ k. digit_of (48 + k) ≡ accepted k) refl refl refl refl r h

digit_read : (b r : ℕ) → digit_of b ≡ accepted r → (48 + r ≡ b) × (is_reading r ≡ true)
unfolding digit_of reading_digit is_reading
digit_read b r h =
    let w = required (leb 49 b && leb b 52) 4 (accepted (b - 48)) r h in
    let low = leb-true 49 b (and_left (leb 49 b) (leb b 52) w.0) in
    let high = leb-true b 52 (and_right (leb 49 b) (leb b 52) w.0) in
    let e : b - 48 ≡ r = of_of w.1 in
    let one : leb 1 r ≡ true = le-leb 1 r (omega arith) in
    let four : leb r 4 ≡ true = le-leb r 4 (omega arith) in
    (omega arith, both one four)

-- ---- an operator's byte

operator_written : (o : Operator) → operator_of (operator_byte o) ≡ accepted o
unfolding operator_of
operator_written Equal = refl
operator_written NotEqual = refl
operator_written Less = refl
operator_written AtMost = refl
operator_written Greater = refl
operator_written AtLeast = refl

-- one byte of the six, or another
one_of_lem : (b n : ℕ) (a o : Operator) {m : Answer Operator} → operator_byte a ≡ n → (m ≡ accepted o → operator_byte o ≡ b) → cond (eqb b n) (accepted a) m ≡ accepted o → operator_byte o ≡ b
one_of_lem b n a o {m} e f h = go (eqb b n) refl h
  where
    go : (t : Bool) → eqb b n ≡ t → cond t (accepted a) m ≡ accepted o → operator_byte o ≡ b
    go true p q = rw (← of_of q) (e ∙ sym (eqb-true b n p))
    go false p q = f q

operator_read_lem : (b : ℕ) (o : Operator) → operator_of b ≡ accepted o → operator_byte o ≡ b
unfolding operator_of
operator_read_lem b o h =
    one_of_lem b 61 Equal o refl (one_of_lem b 33 NotEqual o refl (one_of_lem b 60 Less o refl (one_of_lem b 108 AtMost o refl (one_of_lem b 62 Greater o refl (one_of_lem b 103 AtLeast o refl (λ e. absurd (no_of e))))))) h

-- ---- k

k_written : (k : ℤ) → in_range (Some k) ≡ true → k_field (integer_text k) ≡ accepted k
unfolding k_field k_answer
k_written k h = rw (read_integer k, in_range_lem k h)

k_read_lem : (field : List ℕ) (k : ℤ) → k_field field ≡ accepted k → (integer_text k ≡ field) × (in_range (Some k) ≡ true)
unfolding k_field k_answer
k_read_lem field k h = go (integer_of field) refl
  where
    go : (a : Result ℤ Fault) → integer_of field ≡ a → (integer_text k ≡ field) × (in_range (Some k) ≡ true)
    go (Ok z) p =
        let w = integer_read field k (p ∙ ap Ok (of_of (rw p at h))) in
        (w.text, in_signed_range_lem k w.range)
    go (Err f) p = absurd (no_of (rw p at h))

-- ---- references

-- a number does not begin with `@`
digits_first : (s : List ℕ) → digits s ≡ true → eqb (get_or s 0 0) 64 ≡ false
unfolding digits
digits_first [] h = refl
digits_first (b ∷ s) h = ne_eqb b 64 (λ e. omega (arith, digit_high b (and_left (digit b) (digits s) h)))

k_first : (k : ℤ) → eqb (get_or (integer_text k) 0 0) 64 ≡ false
unfolding integer_text
k_first (pos n) = digits_first (digits_of n) (written_digits n)
k_first (negsuc n) = refl

reference_written : (correlation : Bool) (x : Reference) → valid_reference correlation x ≡ true → reference_field correlation (reference_text x) ≡ accepted x
unfolding valid_reference reference_field reference_text constant_field activation_field ◌>>=◌ ◌>>◌ require
reference_written correlation (Constant k) h = rw (k_first k, k_written k h)
reference_written correlation (Activation g k) h =
    let w = and₃ {a = correlation} {b = is_reading g} {c = in_range (Some k)} h in
    rw (reading_digit_lem g w.1) (rw (w.0, digit_written g w.1, k_written k w.2))

pub record ReferenceRead (correlation : Bool) (field : List ℕ) (x : Reference) : Type 0 where
  pub text : reference_text x ≡ field
  pub valid : valid_reference correlation x ≡ true

constant_read : (correlation : Bool) (field : List ℕ) (x : Reference) → constant_field field ≡ accepted x → ReferenceRead correlation field x
unfolding constant_field reference_text valid_reference
constant_read correlation field x h =
    let w = through (k_field field) (λ k. accepted (Constant k)) x h in
    let k = k_read_lem field w.value w.first in
    rw (← of_of w.rest) (record { text = k.0; valid = k.1 })

activation_is : (correlation : Bool) (b p g : ℕ) (s : List ℕ) (k : ℤ) → correlation ≡ true → digit_of b ≡ accepted g → eqb p 58 ≡ true → k_field s ≡ accepted k → ReferenceRead correlation (64 ∷ b ∷ p ∷ s) (Activation g k)
unfolding reference_text valid_reference
activation_is correlation b p g s k e h i j =
    let w = digit_read b g h in
    let v = k_read_lem s k j in
    record { text = rw (reading_digit_lem g w.1, w.0, eqb-true p 58 i, v.0); valid = both₃ e w.1 v.1 }

activation_read : (correlation : Bool) (field : List ℕ) (x : Reference) → correlation ≡ true → activation_field field ≡ accepted x → ReferenceRead correlation (64 ∷ field) x
unfolding activation_field digit_of reading_digit require ◌>>=◌ ◌>>◌
activation_read correlation [] x e h = absurd (no_of h)
activation_read correlation (b ∷ []) x e h =
    let w = through (digit_of b) _ x h in
    absurd (no_of w.rest)
activation_read correlation (b ∷ p ∷ s) x e h =
    let w = through (digit_of b) _ x h in
    let v = required (eqb p 58) 4 _ x w.rest in
    let u = through (k_field s) (λ k. accepted (Activation w.value k)) x v.1 in
    rw (← of_of u.rest) (activation_is correlation b p w.value s u.value e w.first v.0 u.first)

reference_read_lem : (correlation : Bool) (field : List ℕ) (x : Reference) → reference_field correlation field ≡ accepted x → ReferenceRead correlation field x
unfolding reference_field
reference_read_lem correlation [] x h = constant_read correlation [] x h
reference_read_lem correlation (b ∷ s) x h = go (eqb b 64) refl h
  where
    go : (t : Bool) → eqb b 64 ≡ t → cond t (require correlation 4 >> activation_field s) (constant_field (b ∷ s)) ≡ accepted x → ReferenceRead correlation (b ∷ s) x
    go true p q =
        let w = required correlation 4 (activation_field s) x q in
        rw (eqb-true b 64 p) (activation_read correlation s x w.0 w.1)
    go false p q = constant_read correlation (b ∷ s) x q

-- ---- comparisons

pub comparison_written : (correlation : Bool) (c : Comparison) → valid_comparison correlation c ≡ true → comparison_field correlation (comparison_text c) ≡ accepted c
unfolding valid_comparison comparison_field comparison_text ◌>>=◌
comparison_written correlation c h =
    let p : (is_reading c.reading ≡ true) × (valid_reference correlation c.reference ≡ true) = and₂ h in
    rw (reading_digit_lem c.reading p.0)
    (rw (digit_written c.reading p.0, operator_written c.operator, reference_written correlation c.reference p.1))

pub record ComparisonRead (correlation : Bool) (field : List ℕ) (c : Comparison) : Type 0 where
  pub text : comparison_text c ≡ field
  pub valid : valid_comparison correlation c ≡ true

comparison_is : (correlation : Bool) (b p r : ℕ) (o : Operator) (s : List ℕ) (x : Reference) → digit_of b ≡ accepted r → operator_of p ≡ accepted o → reference_field correlation s ≡ accepted x → ComparisonRead correlation (b ∷ p ∷ s) (record { reading = r; operator = o; reference = x })
unfolding comparison_text valid_comparison
comparison_is correlation b p r o s x h i j =
    let w = digit_read b r h in
    let v = reference_read_lem correlation s x j in
    record { text = rw (reading_digit_lem r w.1, w.0, operator_read_lem p o i, v.text); valid = both w.1 v.valid }

pub comparison_read_lem : (correlation : Bool) (field : List ℕ) (c : Comparison) → comparison_field correlation field ≡ accepted c → ComparisonRead correlation field c
unfolding comparison_field digit_of reading_digit operator_of require ◌>>=◌ ◌>>◌
comparison_read_lem correlation [] c h = absurd (no_of h)
comparison_read_lem correlation (b ∷ []) c h =
    let w = through (digit_of b) _ c h in
    absurd (no_of w.rest)
comparison_read_lem correlation (b ∷ p ∷ s) c h =
    let w = through (digit_of b) _ c h in
    let v = through (operator_of p) _ c w.rest in
    let u = through (reference_field correlation s) (λ x. accepted (record { reading = w.value; operator = v.value; reference = x })) c v.rest in
    rw (← of_of u.rest) (comparison_is correlation b p w.value v.value s u.value w.first v.first u.first)
