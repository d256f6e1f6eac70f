-- `window::end_field`: the reader's answer for the whole field is document 01's.
use mathlib.Core.Path.{◌∙◌}
use native.Mathlib.Omega.{arith}
use Rattle.declare.specs.Events.{latest}
use Rattle.number.specs.Reader.{bound}
use Rattle.number.proofs.Answers.{answers}
use Rattle.line.specs.Fields.{tab, before}
use Rattle.line.specs.Values.{number_field}
use Rattle.line.specs.Scans.{field_scan}
use Rattle.rule_text.specs.Rules.{end_field}
use Rattle.rule_text.specs.Reads.{end_by}
use Rattle.rule_text.proofs.window.end_field.Goals as goal

pub returns-clause-answer_value : goal.returns-clause-answer_value
unfolding end_field end_by number_field field_scan bound
returns-clause-answer_value c =
    let f = answers (before tab c.args.part.now) in
    c.end_answer.ensures ∙ rw (c.scan_field-scan.ensures, f.dashed, f.natural 1 latest (omega arith))
