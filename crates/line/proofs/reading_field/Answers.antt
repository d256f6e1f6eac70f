-- `line::reading_field`: the reader's answer for the whole field is document 01's.
use mathlib.Core.Path.{◌∙◌}
use Rattle.number.proofs.Answers.{answers}
use Rattle.line.specs.Fields.{before}
use Rattle.line.specs.Values.{reading_field}
use Rattle.line.specs.Scans.{field_scan, reading_by}
use Rattle.line.proofs.reading_field.Goals as goal

pub returns-clause-answer_value : goal.returns-clause-answer_value
unfolding reading_field reading_by field_scan
returns-clause-answer_value c =
    let f = answers (before c.args.separator c.args.part.now) in
    c.reading_answer.ensures ∙ rw (c.scan_field-scan.ensures, f.dashed, f.integer)
