-- Comparisons: "a digit `1` to `4` for the reading, then one byte of `=` `!` `<` `l` `>` `g` (in
-- the order of the six above), then k, or `@`, a digit `1` to `4` for the activation's reading,
-- `:`, k". "Comparison not of its form, `@` in an activation condition included" is 4. Past the end
-- of a list of bytes stands 0, which is none of these bytes.
use Rattle.std.specs.Prelude.{Bool, cond, ◌&&◌, List, ℕ, ◌-◌, leb, eqb, ℤ, get_or, drop, Result, Ok, Err}
use Rattle.number.specs.Number.{digit0, integer_of}
use Rattle.declare.specs.Answers.{Answer, accepted, refused, ◌>>=◌, ◌>>◌, require}
use Rattle.rule_text.specs.Types.{Operator, Equal, NotEqual, Less, AtMost, Greater, AtLeast, Reference, Constant, Activation, Comparison, Fault, Form, Range}

-- `1` to `4` are the bytes 49 to 52
abbrev pub digit1 : ℕ
digit1 = 49

abbrev pub digit4 : ℕ
digit4 = 52

-- `:` and `@`
abbrev pub colon : ℕ
colon = 58

abbrev pub at_sign : ℕ
at_sign = 64

-- `=` `!` `<` `l` `>` `g`, for =, ≠, <, ≤, >, ≥
abbrev pub operator_byte : Operator → ℕ
operator_byte Equal = 61
operator_byte NotEqual = 33
operator_byte Less = 60
operator_byte AtMost = 108
operator_byte Greater = 62
operator_byte AtLeast = 103

unfoldable pub reading_digit : ℕ → Bool
reading_digit b = leb digit1 b && leb b digit4

unfoldable pub digit_of : ℕ → Answer ℕ
digit_of b = do
  require (reading_digit b) 4
  accepted (b - digit0)

unfoldable pub operator_of : ℕ → Answer Operator
operator_of b =
    cond (eqb b (operator_byte Equal)) (accepted Equal)
    (cond (eqb b (operator_byte NotEqual)) (accepted NotEqual)
    (cond (eqb b (operator_byte Less)) (accepted Less)
    (cond (eqb b (operator_byte AtMost)) (accepted AtMost)
    (cond (eqb b (operator_byte Greater)) (accepted Greater)
    (cond (eqb b (operator_byte AtLeast)) (accepted AtLeast)
    (refused 4))))))

-- "a k not of the number form is 4, one outside its range 3"
unfoldable pub k_number : Fault → ℕ
k_number Form = 4
k_number Range = 3

unfoldable pub k_answer : Result ℤ Fault → Answer ℤ
k_answer (Ok k) = accepted k
k_answer (Err fault) = refused (k_number fault)

unfoldable pub k_field : List ℕ → Answer ℤ
k_field field = k_answer (integer_of field)

-- "a constant k"
unfoldable pub constant_field : List ℕ → Answer Reference
constant_field field = do
  k ← k_field field
  accepted (Constant k)

-- "activation's reading g plus k": what stands after `@`
unfoldable pub activation_field : List ℕ → Answer Reference
activation_field field = do
  g ← digit_of (get_or field 0 0)
  require (eqb (get_or field 1 0) colon) 4
  k ← k_field (drop 2 field)
  accepted (Activation g k)

-- `@` is allowed in a correlation only
unfoldable pub reference_field : Bool → List ℕ → Answer Reference
reference_field correlation field =
    cond (eqb (get_or field 0 0) at_sign)
    (do
      require correlation 4
      activation_field (drop 1 field))
    (constant_field field)

unfoldable pub comparison_field : Bool → List ℕ → Answer Comparison
comparison_field correlation field = do
  reading ← digit_of (get_or field 0 0)
  operator ← operator_of (get_or field 1 0)
  reference ← reference_field correlation (drop 2 field)
  accepted (record { reading = reading; operator = operator; reference = reference })
