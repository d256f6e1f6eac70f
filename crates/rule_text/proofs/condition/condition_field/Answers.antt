-- `condition::condition_field`: the field is the part before the separator.
use Rattle.line.proofs.Fields.{before_take}
use Rattle.rule_text.proofs.condition.condition_field.Goals as goal

pub returns-clause-answer_value : goal.returns-clause-answer_value
returns-clause-answer_value c =
    let a = c.args in
    rw (c.condition.ensures, c.part_before.ensures, c.find-length.ensures, before_take a.separator a.part.now)
