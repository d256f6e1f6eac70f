-- `rule::rule_line`: a line of seven fields gives what its fields give.
use mathlib.Core.Path.{sym, ◌∙◌}
use Rattle.std.proofs.Common.{rules}
use Rattle.line.specs.Fields.{fields_from}
use Rattle.line.proofs.Lines.{chained, line_checked}
use Rattle.rule_text.specs.Rules.{rule_of}
use Rattle.rule_text.proofs.Lines.{field_count}
use Rattle.rule_text.proofs.rule.rule_line.Goals as goal

pub returns-clause-answer_value : goal.returns-clause-answer_value
returns-clause-answer_value c =
    let s = c.args.rest.now in
    chained c.check_line-line.result.answer c.and_then.result (rule_of (fields_from 6 s)) (search rules)
    ∙ rw c.check_line-line.ensures.answer_value (sym (line_checked 6 rule_of field_count s))
