-- `comparison::k_field`: the number reader's answer for the bytes before the comma is document
-- 01's, and the scan has their length.
use mathlib.Core.Path.{◌≡◌}
use mathlib.Core.List.{List}
use Prim.Native.Nat.{ℕ}
use Rattle.std.proofs.Common.{rules}
use Rattle.number.specs.Reader.{integer_in}
use Rattle.number.proofs.Answers.{answers}
use Rattle.declare.specs.Answers.{answer_of, ◌>>=◌}
use Rattle.line.specs.Fields.{before}
use Rattle.line.specs.Scans.{field_scan}
use Rattle.line.proofs.Lines.{told}
use Rattle.rule_text.specs.Types.{Reader, Field}
use Rattle.rule_text.specs.Conditions.{comma}
use Rattle.rule_text.specs.Comparisons.{k_answer, k_field}
use Rattle.rule_text.specs.Reads.{up_to_comma}
use Rattle.rule_text.proofs.comparison.k_field.Goals as goal

read : (part : List ℕ) (scan : Field Reader) → scan ≡ field_scan comma part → k_answer (integer_in scan.answer) ≡ k_field (before comma part)
unfolding field_scan k_field
read part scan scanned = rw (scanned, (answers (before comma part)).integer)

pub returns-in_err-k_answer : goal.returns-in_err-k_answer
unfolding up_to_comma answer_of ◌>>=◌
returns-in_err-k_answer c =
    simp (told _ _ c.from_residual.ensures.1, ← read _ _ c.scan_field-scan.ensures, ← c.in_err-k_answer.ensures)

pub returns : goal.returns
unfolding up_to_comma answer_of field_scan ◌>>=◌
returns c =
    simp (← read _ _ c.scan_field-scan.ensures, c.scan_field-scan.ensures) (search rules)
