-- What one pass over a line, and one over a field, find.
use Rattle.std.specs.Prelude.{cond, List, ℕ, None}
use Rattle.number.specs.Reader.{after, integer_in, dash_in}
use Rattle.line.specs.Types.{Reading, Reader, Empty, LineScan, Field}
use Rattle.line.specs.Fields.{LF, tab, index_of, before, count_of}
use Rattle.declare.specs.Answers.{Answer, accepted}
use Rattle.line.specs.Values.{integer_answer}

-- where the first line of the text ends, and how many tabs it has
unfoldable pub line_scan : List ℕ → LineScan
line_scan text = record { end = index_of LF text; tabs = count_of tab (before LF text) }

-- the number reader after the first field of the part, and the field's length
unfoldable pub field_scan : ℕ → List ℕ → Field Reader
field_scan separator part = record { answer = after Empty (before separator part); length = index_of separator part }

-- a reader's answer as a reading
unfoldable pub reading_by : Reader → Answer Reading
reading_by reader = cond (dash_in reader) (accepted None) (integer_answer (integer_in reader))
