-- Comparisons at the head of a part of a condition. The code looks at the part's own bytes, the
-- definitions at those before the comma: as no byte of the form is a comma, both come to the same,
-- byte by byte.
use mathlib.Core.Path.{◌≡◌, refl, sym, ◌∙◌, ap}
use mathlib.Core.Bool.{Bool, true, false}
use mathlib.Core.List.{List, [], ◌∷◌}
use Prim.Native.Nat.{ℕ, suc, ◌+◌, ◌-◌, ◌≤◌}
use native.Mathlib.Omega.{arith}
use borrow.Author.Tests.{eqb-true, leb-true}
use lib.Dec.{leb, eqb}
use lib.IntN.{ℤ}
use lib.ListN.{length, get_or, drop}
use lib.Seq.{get_or-drop, drop-drop}
use Rattle.declare.proofs.Booleans.{and_left}
use Rattle.line.specs.Fields.{index_of, before}
use Rattle.declare.specs.Answers.{Answer, accepted, refused, ◌>>=◌, ◌>>◌, require}
use Rattle.line.proofs.Fields.{index_le}
use Rattle.declare.proofs.Answers.{no_of, of_of, through}
use Rattle.rule_text.specs.Types.{Operator, Reference, Constant, Activation, Comparison, Field}
use Rattle.rule_text.specs.Conditions.{comma}
use Rattle.rule_text.specs.Comparisons.{reading_digit, digit_of, operator_of, k_field, constant_field, activation_field, reference_field, comparison_field}
use Rattle.rule_text.specs.Reads.{up_to_comma}

-- ---- the field up to the comma

-- what was read, changed by f, and its length by g
unfoldable pub changed : {A B : Type 0} → (A → B) → (ℕ → ℕ) → Answer (Field A) → Answer (Field B)
changed f g (accepted w) = accepted (record { answer = f w.answer; length = g w.length })
changed f g (refused m) = refused m

-- what was read, and its length
module _ {A : Type 0} (holds : List ℕ → Answer A) (s : List ℕ) (w : Field A) (h : up_to_comma holds s ≡ accepted w) where
  pub measured : (holds (before comma s) ≡ accepted w.answer) × (index_of comma s ≡ w.length)
  unfolding up_to_comma
  measured =
      let t = through (holds (before comma s)) _ w h in
      let e : record { answer = t.value; length = index_of comma s } ≡ w = of_of t.rest in
      (t.first ∙ ap (λ (v : Field A). accepted v.answer) e, ap (λ (v : Field A). v.length) e)

  pub length_le : w.length ≤ length s
  length_le = rw (← measured.1) (index_le comma s)

pub comma_refused : {A : Type 0} (holds : List ℕ → Answer A) (s : List ℕ) (n : ℕ) → up_to_comma holds s ≡ refused n → holds (before comma s) ≡ refused n
unfolding up_to_comma ◌>>=◌
comma_refused {A} holds s n h = go (holds (before comma s)) refl
  where
    go : (x : Answer A) → holds (before comma s) ≡ x → holds (before comma s) ≡ refused n
    go (refused m) p =
        let e : refused m ≡ refused n = rw p at h in
        let q : m ≡ n = cc in
        p ∙ ap refused q
    go (accepted a) p = absurd (no_of (sym (rw p at h)))

-- the first byte: past the end, and at the comma, it is as if 0 stood there
first_byte : {A : Type 0} (f : ℕ → A) (s : List ℕ) → f 0 ≡ f comma → f (get_or (before comma s) 0 0) ≡ f (get_or s 0 0)
unfolding before
first_byte f [] e = refl
first_byte f (x ∷ s) e = go (eqb x comma) refl
  where
    go : (t : Bool) → eqb x comma ≡ t → f (get_or (before comma (x ∷ s)) 0 0) ≡ f x
    go true p = rw (p, eqb-true x comma p) e
    go false p = rw p

-- a byte that f allows, and what follows it
record Byte (s : List ℕ) : Type 0 where
  fields : before comma s ≡ get_or s 0 0 ∷ before comma (drop 1 s)
  index : index_of comma s ≡ suc (index_of comma (drop 1 s))

byte : {B : Type 0} (f : ℕ → Answer B) → f 0 ≡ refused 4 → f comma ≡ refused 4 → (s : List ℕ) (b : B) → f (get_or s 0 0) ≡ accepted b → Byte s
unfolding before index_of
byte f z e [] b h = absurd (no_of (sym z ∙ h))
byte f z e (x ∷ s) b h = go (eqb x comma) refl
  where
    go : (t : Bool) → eqb x comma ≡ t → Byte (x ∷ s)
    go true p = absurd (no_of (sym e ∙ rw (eqb-true x comma p) at h))
    go false p = record { fields = rw p; index = rw p }

-- ---- single bytes

pub digit_is : (b : ℕ) → reading_digit b ≡ true → digit_of b ≡ accepted (b - 48)
unfolding digit_of require ◌>>◌
digit_is b h = rw h

pub digit_none : (b : ℕ) → reading_digit b ≡ false → digit_of b ≡ refused 4
unfolding digit_of require ◌>>◌
digit_none b h = rw h

pub digit_low : (b : ℕ) → reading_digit b ≡ true → 48 ≤ b
unfolding reading_digit
digit_low b h = omega (arith, leb-true 49 b (and_left (leb 49 b) (leb b 52) h))

digit_zero : digit_of 0 ≡ refused 4
unfolding reading_digit
digit_zero = digit_none 0 refl

digit_comma : digit_of comma ≡ refused 4
unfolding reading_digit
digit_comma = digit_none comma refl

operator_zero : operator_of 0 ≡ refused 4
unfolding operator_of
operator_zero = refl

operator_comma : operator_of comma ≡ refused 4
unfolding operator_of
operator_comma = refl

-- `:`
unfoldable colon_of : ℕ → Answer (Unit {0})
colon_of b = require (eqb b 58) 4

-- `@`
unfoldable at_of : ℕ → Answer (Unit {0})
at_of b = require (eqb b 64) 4

-- ---- references

pub constant_part : (s : List ℕ) → up_to_comma constant_field s ≡ changed Constant (λ n. n) (up_to_comma k_field s)
unfolding constant_field up_to_comma ◌>>=◌ changed
constant_part s = go (k_field (before comma s)) refl
  where
    go : (x : Answer ℤ) → k_field (before comma s) ≡ x → up_to_comma constant_field s ≡ changed Constant (λ n. n) (up_to_comma k_field s)
    go (refused n) p = rw p
    go (accepted k) p = rw p

module _ (s : List ℕ) where
  second : get_or (drop 1 s) 0 0 ≡ get_or s 1 0
  second = get_or-drop 1 s 0 0

  third : drop 1 (drop 1 s) ≡ drop 2 s
  third = drop-drop 1 1 s

  pub activation_no_digit : (n : ℕ) → digit_of (get_or s 0 0) ≡ refused n → up_to_comma activation_field s ≡ refused n
  unfolding activation_field up_to_comma ◌>>=◌
  activation_no_digit n h = rw (first_byte digit_of s (digit_zero ∙ sym digit_comma), h)

  module _ (g : ℕ) (h : digit_of (get_or s 0 0) ≡ accepted g) where
    pub activation_no_colon : eqb (get_or s 1 0) 58 ≡ false → up_to_comma activation_field s ≡ refused 4
    unfolding activation_field up_to_comma ◌>>=◌ ◌>>◌ require
    activation_no_colon k =
        rw ((byte digit_of digit_zero digit_comma s g h).fields, h, first_byte (λ b. eqb b 58) (drop 1 s) refl, second, k)

    pub activation_part : eqb (get_or s 1 0) 58 ≡ true → up_to_comma activation_field s ≡ changed (Activation g) (λ n. n + 2) (up_to_comma k_field (drop 2 s))
    unfolding activation_field up_to_comma ◌>>=◌ ◌>>◌ require changed colon_of
    activation_part k =
        let colon : colon_of (get_or (drop 1 s) 0 0) ≡ accepted tt = rw (second, k) in
        let v = byte digit_of digit_zero digit_comma s g h in
        let w = byte colon_of refl refl (drop 1 s) tt colon in
        rw (v.fields, v.index, w.fields, w.index, h, second, k, third) (go (k_field (before comma (drop 2 s))))
      where
        go : (x : Answer ℤ) → ((x >>= λ k. accepted (Activation g k)) >>= λ a. accepted (record { answer = a; length = suc (suc (index_of comma (drop 2 s))) })) ≡ changed (Activation g) (λ n. n + 2) (x >>= λ a. accepted (record { answer = a; length = index_of comma (drop 2 s) }))
        go (refused n) = refl
        go (accepted k) = ap (λ (n : ℕ). accepted (record { answer = Activation g k; length = n })) (omega arith)

  pub reference_constant : (correlation : Bool) → eqb (get_or s 0 0) 64 ≡ false → up_to_comma (reference_field correlation) s ≡ up_to_comma constant_field s
  unfolding reference_field up_to_comma
  reference_constant correlation h = rw (first_byte (λ b. eqb b 64) s refl, h)

  pub reference_refused : (correlation : Bool) → correlation ≡ false → eqb (get_or s 0 0) 64 ≡ true → up_to_comma (reference_field correlation) s ≡ refused 4
  unfolding reference_field up_to_comma ◌>>=◌ ◌>>◌ require
  reference_refused correlation e h = rw (e, first_byte (λ b. eqb b 64) s refl, h)

  pub reference_part : (correlation : Bool) → correlation ≡ true → eqb (get_or s 0 0) 64 ≡ true → up_to_comma (reference_field correlation) s ≡ changed (λ x. x) (λ n. n + 1) (up_to_comma activation_field (drop 1 s))
  unfolding reference_field up_to_comma ◌>>=◌ ◌>>◌ require changed at_of
  reference_part correlation e h =
      let at : at_of (get_or s 0 0) ≡ accepted tt = rw h in
      let v = byte at_of refl refl s tt at in
      rw (e, v.fields, v.index, h) (go (activation_field (before comma (drop 1 s))))
    where
      go : (x : Answer Reference) → (x >>= λ a. accepted (record { answer = a; length = suc (index_of comma (drop 1 s)) })) ≡ changed (λ x. x) (λ n. n + 1) (x >>= λ a. accepted (record { answer = a; length = index_of comma (drop 1 s) }))
      go (refused n) = refl
      go (accepted x) = ap (λ (n : ℕ). accepted (record { answer = x; length = n })) (omega arith)

-- ---- comparisons

module _ (correlation : Bool) (s : List ℕ) where
  pub comparison_no_digit : (n : ℕ) → digit_of (get_or s 0 0) ≡ refused n → up_to_comma (comparison_field correlation) s ≡ refused n
  unfolding comparison_field up_to_comma ◌>>=◌
  comparison_no_digit n h = rw (first_byte digit_of s (digit_zero ∙ sym digit_comma), h)

  module _ (r : ℕ) (h : digit_of (get_or s 0 0) ≡ accepted r) where
    pub comparison_no_operator : (n : ℕ) → operator_of (get_or s 1 0) ≡ refused n → up_to_comma (comparison_field correlation) s ≡ refused n
    unfolding comparison_field up_to_comma ◌>>=◌
    comparison_no_operator n k =
        rw ((byte digit_of digit_zero digit_comma s r h).fields, h, first_byte operator_of (drop 1 s) (operator_zero ∙ sym operator_comma), second s, k)

    pub comparison_part : (o : Operator) → operator_of (get_or s 1 0) ≡ accepted o → up_to_comma (comparison_field correlation) s ≡ changed (λ x. record { reading = r; operator = o; reference = x }) (λ n. n + 2) (up_to_comma (reference_field correlation) (drop 2 s))
    unfolding comparison_field up_to_comma ◌>>=◌ changed
    comparison_part o k =
        let v = byte digit_of digit_zero digit_comma s r h in
        let w = byte operator_of operator_zero operator_comma (drop 1 s) o (rw (second s) k) in
        rw (v.fields, v.index, w.fields, w.index, h, second s, k, third s) (go (reference_field correlation (before comma (drop 2 s))))
      where
        compared : Reference → Comparison
        compared x = record { reading = r; operator = o; reference = x }

        go : (x : Answer Reference) → ((x >>= λ x. accepted (compared x)) >>= λ a. accepted (record { answer = a; length = suc (suc (index_of comma (drop 2 s))) })) ≡ changed compared (λ n. n + 2) (x >>= λ a. accepted (record { answer = a; length = index_of comma (drop 2 s) }))
        go (refused n) = refl
        go (accepted x) = ap (λ (n : ℕ). accepted (record { answer = compared x; length = n })) (omega arith)
