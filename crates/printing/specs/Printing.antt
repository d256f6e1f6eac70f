-- The calls that write what is printed into a lent buffer. A run may be closed or not; of two texts
-- the one number is 15.
use Rattle.std.specs.Prelude.{true, List, ℕ, ◌≤◌, length, Result}
use Rattle.declare.specs.Answers.{Answer}
use Rattle.run.specs.declared.Run.{Run}
use Rattle.run.specs.Records.{valid_run}
use Rattle.declare.specs.declared.Refusal.{Refusal}
use Rattle.buffer.specs.Writes.{write_of, Writes}
use Rattle.printing.specs.Report.{report_of, printed_of}

-- the most bytes that are printed: 16 rules of 256 lines of 13 bytes and one of 21
abbrev pub printed_bytes : ℕ
printed_bytes = 53792

-- the call write_report: its answer, and what it leaves
abbrev pub write_report_of : Run → List ℕ → Answer ℕ
write_report_of r buffer = write_of (valid_run r) (report_of r) buffer

abbrev pub WritesReport : Run → List ℕ → List ℕ → Result ℕ Refusal → Type 0
WritesReport r before after answer = Writes (valid_run r) (report_of r) before after answer

-- the call print_texts
abbrev pub print_texts_of : List ℕ → List ℕ → List ℕ → Answer ℕ
print_texts_of rules cycle buffer = write_of true (printed_of rules cycle) buffer

pub record PrintsTexts (rules cycle before after : List ℕ) (answer : Result ℕ Refusal) : Type 0 where
  pub writes : Writes true (printed_of rules cycle) before after answer
  -- a buffer of so many bytes is never too short
  pub few : length (printed_of rules cycle) ≤ printed_bytes
