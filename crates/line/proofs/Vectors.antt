-- Fields on single texts, by computation over the definitions.
use Rattle.std.specs.Prelude.{None, Some}
use mathlib.Core.Path.{◌≡◌, refl}
use mathlib.Core.List.{List, [], ◌∷◌, map}
use Prim.Native.Nat.{ℕ}
use lib.Dec.{eqb}
use lib.IntN.{pos, negsuc}
use lib.ListN.{length, get_or}
use Rattle.number.specs.Number.{digit, digits, none, zero_alone, positive, negative, natural_form, integer_form, dash, value_from, value_of, integer_value, in_natural_range, natural_of, in_signed_range, integer_of}
use Rattle.number.proofs.Quoted.{bytes, Case, ◌gives◌, Checked}
use Rattle.line.specs.Types.{Reading}
use Rattle.line.specs.Fields.{LF, tab, before, onto, split, each_after, joined}
use Rattle.declare.specs.Answers.{Answer, accepted, refused, ◌>>◌, require}
use Rattle.line.specs.Values.{number_field, reading_field}
use Rattle.line.specs.Texts.{Records, All, Stop, line_after, continued, lines_of, text_of, written_line, written_text}

-- no bytes are one empty part; a separator at the end leaves an empty part behind it
abbrev parted : List (Case (List (List ℕ)))
parted =
    "" gives map bytes ("" ∷ [])
    ∷ "a" gives map bytes ("a" ∷ [])
    ∷ "a\tbc" gives map bytes ("a" ∷ "bc" ∷ [])
    ∷ "a\t" gives map bytes ("a" ∷ "" ∷ [])
    ∷ "\t\t" gives map bytes ("" ∷ "" ∷ "" ∷ [])
    ∷ []

abbrev lines : List (Case (List ℕ))
lines =
    "" gives []
    ∷ "ab" gives bytes "ab"
    ∷ "ab\ncd\n" gives bytes "ab"
    ∷ "\nab" gives []
    ∷ []

abbrev activities : List (Case (Answer ℕ))
activities =
    "1" gives accepted 1
    ∷ "64" gives accepted 64
    ∷ "0" gives refused 3
    ∷ "65" gives refused 3
    ∷ "-5" gives refused 2
    ∷ "-" gives refused 2
    ∷ "" gives refused 2
    ∷ "064" gives refused 2
    ∷ []

-- blank is not 0
abbrev readings : List (Case (Answer Reading))
readings =
    "-" gives accepted None
    ∷ "0" gives accepted (Some (pos 0))
    ∷ "-7" gives accepted (Some (negsuc 6))
    ∷ "2147483647" gives accepted (Some (pos 2147483647))
    ∷ "-2147483648" gives accepted (Some (negsuc 2147483647))
    ∷ "2147483648" gives refused 3
    ∷ "-2147483649" gives refused 3
    ∷ "-0" gives refused 2
    ∷ "--" gives refused 2
    ∷ "" gives refused 2
    ∷ "7\r" gives refused 2
    ∷ []

-- records of one field each
abbrev field : List (List ℕ) → List (List ℕ) → Answer (List ℕ)
field above fields = do
  require (eqb (length fields) 1) 1
  accepted (get_or fields 0 [])

-- the last line that LF does not end is 12, whatever it holds; lines count from 1
abbrev texts : List (Case (Records (List ℕ)))
texts =
    "" gives All []
    ∷ "a\n" gives All (bytes "a" ∷ [])
    ∷ "a\n\nbc\n" gives All (bytes "a" ∷ [] ∷ bytes "bc" ∷ [])
    ∷ "a" gives Stop 12 1
    ∷ "a\n\t" gives Stop 12 2
    ∷ "\t\n" gives Stop 1 1
    ∷ "a\n\t\nb" gives Stop 1 2
    ∷ []

pub record Vectors : Type 0 where
  pub of_parts : Checked (split tab) parted
  pub of_lines : Checked (before LF) lines
  pub of_activities : Checked (number_field 1 64) activities
  pub of_readings : Checked reading_field readings
  pub of_texts : Checked (text_of field) texts
  pub of_written_lem : written_text (λ (p : List ℕ). p ∷ p ∷ []) (bytes "a" ∷ bytes "bc" ∷ []) ≡ bytes "a\ta\nbc\tbc\n"

pub vectors : Vectors
unfolding digit digits none zero_alone positive negative natural_form integer_form dash value_from value_of integer_value in_natural_range natural_of in_signed_range integer_of before onto split each_after joined ◌>>◌ require number_field reading_field line_after continued lines_of text_of written_line written_text
vectors = record { of_parts = refl; of_lines = refl; of_activities = refl; of_readings = refl; of_texts = refl; of_written_lem = refl }
