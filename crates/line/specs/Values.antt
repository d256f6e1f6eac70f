-- What a field holds: an unsigned number, or a reading.
use Rattle.std.specs.Prelude.{cond, List, [], ◌∷◌, ℕ, ℤ, None, Some, Result, Ok, Err}
use Rattle.number.specs.Number.{hyphen, dash, fault_number, natural_of, integer_of}
use Rattle.number.specs.Written.{integer_text}
use Rattle.line.specs.Types.{Reading, Fault}
use Rattle.declare.specs.Answers.{Answer, accepted, refused}

-- what a field's answer says, by document 01's numbers
abbrev pub fault_answer : {A : Type 0} → Result A Fault → Answer A
fault_answer (Ok a) = accepted a
fault_answer (Err f) = refused (fault_number f)

abbrev pub natural_answer : Result ℕ Fault → Answer ℕ
natural_answer = fault_answer

-- an unsigned number from low to high
unfoldable pub number_field : ℕ → ℕ → List ℕ → Answer ℕ
number_field low high field = natural_answer (natural_of low high field)

abbrev pub integer_answer : Result ℤ Fault → Answer Reading
integer_answer (Ok z) = accepted (Some z)
integer_answer (Err f) = refused (fault_number f)

-- a reading: "`-` alone means blank reading"
unfoldable pub reading_field : List ℕ → Answer Reading
reading_field field = cond (dash field) (accepted None) (integer_answer (integer_of field))

-- the text of a reading
unfoldable pub reading_text : Reading → List ℕ
reading_text None = hyphen ∷ []
reading_text (Some z) = integer_text z
