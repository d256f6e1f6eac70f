-- The records of a text. "Lines are read downward, the first refusal ends it"; "an empty text has
-- no records". `record_of` stands for what one line holds: given the records above it and its
-- fields, a record, or the number of its first cause.
use Rattle.std.specs.Prelude.{Bool, true, false, cond, List, [], ◌∷◌, ◌++◌, ℕ, ◌+◌, ltb, eqb, length, Result, Ok, Err}
use Rattle.number.specs.Number.{none}
use Rattle.declare.specs.Refusals.{number_of}
use Rattle.line.specs.Types.{Refusal, LineRefusal}
use Rattle.line.specs.Fields.{LF, tab, index_of, before, split, joined}
use Rattle.declare.specs.Answers.{Answer, accepted, refused, require}

-- all records of a text; or the number of the first refusal, and its line
pub data Records (A : Type 0) : Type 0 where
  All : List A → Records A
  Stop : ℕ → ℕ → Records A

-- whether the text is accepted
unfoldable pub is_all : {A : Type 0} → Records A → Bool
is_all (All rs) = true
is_all (Stop n line) = false

-- lines count from 1, and each line above gave one record
unfoldable pub line_after : {A : Type 0} → List A → ℕ
line_after above = length above + 1

unfoldable pub continued : {A : Type 0} → List A → Answer A → (A → Records A) → Records A
continued above (accepted r) rest = rest r
continued above (refused n) rest = Stop n (line_after above)

-- the lists that LF parts: each but the last is a line; the last is empty, or a line that LF does
-- not end, 12
unfoldable pub lines_of : {A : Type 0} → (List A → List (List ℕ) → Answer A) → List A → List (List ℕ) → Records A
lines_of record_of above [] = All above
lines_of record_of above (last ∷ []) = cond (none last) (All above) (Stop 12 (line_after above))
lines_of record_of above (line ∷ next ∷ more) =
    continued above (record_of above (split tab line)) λ r. lines_of record_of (above ++ (r ∷ [])) (next ∷ more)

unfoldable pub text_of : {A : Type 0} → (List A → List (List ℕ) → Answer A) → List ℕ → Records A
text_of record_of text = lines_of record_of [] (split LF text)

-- the first line of a text
unfoldable pub line_of : {A : Type 0} → (List (List ℕ) → Answer A) → List ℕ → Answer A
line_of holds text = cond (ltb (index_of LF text) (length text)) (holds (split tab (before LF text))) (refused 12)

-- the line has n fields
unfoldable pub has_fields : ℕ → List (List ℕ) → Answer (Unit {0})
has_fields n fields = require (eqb (length fields) n) 1

-- ---- written texts; `fields_of` stands for the texts of a record's fields

unfoldable pub written_line : {A : Type 0} → (A → List (List ℕ)) → A → List ℕ
written_line fields_of r = joined tab (fields_of r) ++ (LF ∷ [])

unfoldable pub written_text : {A : Type 0} → (A → List (List ℕ)) → List A → List ℕ
written_text fields_of [] = []
written_text fields_of (r ∷ rs) = written_line fields_of r ++ written_text fields_of rs

-- an answer about a line, with its number beside a refusal
unfoldable pub at_line : {A : Type 0} → ℕ → Result A Refusal → Result A LineRefusal
at_line line (Ok a) = Ok a
at_line line (Err cause) = Err (record { refusal = cause; line = line })

-- ---- the code's answers, by document 01's numbers; `list` gives the records of an accepted text

unfoldable pub records_read : {A B : Type 0} → (B → List A) → Result B LineRefusal → Records A
records_read list (Ok b) = All (list b)
records_read list (Err r) = Stop (number_of r.refusal) r.line
