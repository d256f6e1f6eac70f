-- `line::number_field`: the reader's answer for the whole field is document 01's.
use mathlib.Core.Path.{◌∙◌, ap}
use native.Mathlib.Omega.{arith}
use Rattle.number.specs.Reader.{bound}
use Rattle.number.proofs.Answers.{answers}
use Rattle.line.specs.Fields.{before}
use Rattle.line.specs.Values.{natural_answer, number_field}
use Rattle.line.specs.Scans.{field_scan}
use Rattle.line.proofs.number_field.Goals as goal

pub returns-clause-answer_value : goal.returns-clause-answer_value
unfolding number_field field_scan bound
returns-clause-answer_value c =
    let a = c.args in
    let f = (answers (before a.separator a.part.now)).natural a.low a.high (omega arith) in
    ap natural_answer (c.natural.ensures ∙ rw c.scan_field-scan.ensures f)
