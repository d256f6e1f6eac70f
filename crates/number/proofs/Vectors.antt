-- Document 01's number form and the reader on single texts, by computation over the definitions.
use mathlib.Core.Path.{◌≡◌, refl}
use mathlib.Core.Bool.{true, false}
use mathlib.Core.List.{List, [], ◌∷◌, map}
use lib.IntN.{ℤ, pos, negsuc}
use Prim.Native.Nat.{ℕ}
use Rattle.std.specs.Prelude.{Result, Ok, Err}
use Rattle.number.specs.Types.{Reader, Empty, Minus, Zero, Digits, Malformed, Fault, Form, Range}
use Rattle.number.specs.Number.{digit, digits, none, zero_alone, positive, negative, natural_form, integer_form, value_from, value_of, integer_value, in_natural_range, natural_of, in_signed_range, integer_of}
use Rattle.number.specs.Reader.{bound, extended, first_digit, pushed, after}
use Rattle.number.specs.Written.{digits_in, digits_of, integer_text}
use Rattle.number.proofs.Quoted.{bytes, Case, ◌gives◌, Checked}

-- as a time
abbrev times : List (Case (Result ℕ Fault))
times =
    "0" gives Ok 0
    ∷ "7" gives Ok 7
    ∷ "10" gives Ok 10
    ∷ "4294967295" gives Ok 4294967295
    ∷ "4294967296" gives Err Range
    -- 2³² + 5, 2⁶⁴ and 2⁶⁴ + 5
    ∷ "4294967301" gives Err Range
    ∷ "18446744073709551616" gives Err Range
    ∷ "18446744073709551621" gives Err Range
    ∷ "99999999999999999999999999999999" gives Err Range
    -- a sign is not of the form of an unsigned number, nor is a zero before other digits
    ∷ "" gives Err Form
    ∷ "-" gives Err Form
    ∷ "-0" gives Err Form
    ∷ "-5" gives Err Form
    ∷ "+1" gives Err Form
    ∷ "01" gives Err Form
    ∷ "00" gives Err Form
    ∷ "0x" gives Err Form
    ∷ "1a" gives Err Form
    ∷ " 1" gives Err Form
    ∷ "1 " gives Err Form
    ∷ "1\r" gives Err Form
    ∷ "1.0" gives Err Form
    ∷ "99999999999999999999999999999999x" gives Err Form
    ∷ []

abbrev activities : List (Case (Result ℕ Fault))
activities =
    "1" gives Ok 1
    ∷ "64" gives Ok 64
    ∷ "0" gives Err Range
    ∷ "65" gives Err Range
    -- 2³² + 1 and 2⁶⁴ + 1
    ∷ "4294967297" gives Err Range
    ∷ "18446744073709551617" gives Err Range
    ∷ "064" gives Err Form
    ∷ "-1" gives Err Form
    ∷ []

abbrev integers : List (Case (Result ℤ Fault))
integers =
    "0" gives Ok (pos 0)
    ∷ "7" gives Ok (pos 7)
    ∷ "-1" gives Ok (negsuc 0)
    ∷ "2147483647" gives Ok (pos 2147483647)
    ∷ "-2147483648" gives Ok (negsuc 2147483647)
    ∷ "2147483648" gives Err Range
    ∷ "-2147483649" gives Err Range
    ∷ "4294967296" gives Err Range
    ∷ "-4294967296" gives Err Range
    ∷ "18446744073709551623" gives Err Range
    ∷ "-18446744073709551623" gives Err Range
    ∷ "99999999999999999999999999999999" gives Err Range
    ∷ "-99999999999999999999999999999999" gives Err Range
    ∷ "" gives Err Form
    ∷ "-" gives Err Form
    ∷ "-0" gives Err Form
    ∷ "-01" gives Err Form
    ∷ "--1" gives Err Form
    ∷ "+1" gives Err Form
    ∷ "01" gives Err Form
    ∷ "1-" gives Err Form
    ∷ "- 1" gives Err Form
    ∷ "-1\r" gives Err Form
    ∷ "-99999999999999999999999999999999x" gives Err Form
    ∷ []

-- what the reader keeps of them
abbrev readers : List (Case Reader)
readers =
    "" gives Empty
    ∷ "-" gives Minus
    ∷ "--" gives Malformed
    ∷ "-0" gives Malformed
    ∷ "-7" gives Digits true 7
    ∷ "0" gives Zero
    ∷ "07" gives Malformed
    ∷ "7" gives Digits false 7
    ∷ "7-" gives Malformed
    ∷ "4294967295" gives Digits false 4294967295
    ∷ "42949672959" gives Digits false 42949672959
    ∷ "429496729599" gives Digits false 42949672959
    ∷ "4294967296" gives Digits false 4294967296
    ∷ "42949672960" gives Digits false 4294967296
    ∷ "-99999999999999999999999999999999" gives Digits true 9999999999
    ∷ "99999999999999999999999999999999x" gives Malformed
    ∷ []

pub record Vectors : Type 0 where
  pub of_times : Checked (natural_of 0 4294967295) times
  pub of_activities : Checked (natural_of 1 64) activities
  pub of_integers : Checked integer_of integers
  pub of_readers : Checked (after Empty) readers
  pub written : map integer_text (pos 0 ∷ pos 10 ∷ pos 40507 ∷ negsuc 0 ∷ negsuc 1299 ∷ []) ≡ map bytes ("0" ∷ "10" ∷ "40507" ∷ "-1" ∷ "-1300" ∷ [])

pub vectors : Vectors
unfolding digit digits none zero_alone positive negative natural_form integer_form value_from value_of integer_value in_natural_range natural_of in_signed_range integer_of bound extended first_digit pushed after digits_in digits_of integer_text
vectors = record { of_times = refl; of_activities = refl; of_integers = refl; of_readers = refl; written = refl }
