-- `rule::read_rule`: the fields give what the definition gives, field by field.
use Rattle.declare.specs.Answers.{answer_of, ◌>>=◌, ◌>>◌, require}
use Rattle.line.specs.Fields.{following, fields_from}
use Rattle.line.proofs.Lines.{told, told_fault}
use Rattle.rule_text.specs.Rules.{rule_of}
use Rattle.rule_text.proofs.rule.read_rule.Goals as goal

pub returns-in_err-code : goal.returns-in_err-code
unfolding rule_of fields_from following require answer_of ◌>>=◌ ◌>>◌
returns-in_err-code c = simp (told_fault _ _ c.from_residual.ensures.1, ← c.byte_field-field.ensures.answer_value, c.in_err-code.was)

pub returns-in_err-activation : goal.returns-in_err-activation
unfolding rule_of fields_from following require answer_of ◌>>=◌ ◌>>◌
returns-in_err-activation c = simp (told_fault _ _ c.from_residual-in_err-activation.ensures.1, ← c.byte_field-field.ensures.answer_value, c.in_ok-code.was, ← c.byte_field-field.ensures.length_value, ← c.rest_of-part.ensures, ← c.byte_field-field-2.ensures.answer_value, c.in_err-activation.was)

pub returns-in_err-target : goal.returns-in_err-target
unfolding rule_of fields_from following require answer_of ◌>>=◌ ◌>>◌
returns-in_err-target c = simp (told_fault _ _ c.from_residual-in_err-target.ensures.1, ← c.byte_field-field.ensures.answer_value, c.in_ok-code.was, ← c.byte_field-field.ensures.length_value, ← c.rest_of-part.ensures, ← c.byte_field-field-2.ensures.answer_value, c.in_ok-activation.was, ← c.byte_field-field-2.ensures.length_value, ← c.rest_of-part-2.ensures, ← c.byte_field-field-3.ensures.answer_value, c.in_err-target.was)

pub returns-in_err-from : goal.returns-in_err-from
unfolding rule_of fields_from following require answer_of ◌>>=◌ ◌>>◌
returns-in_err-from c = simp (told_fault _ _ c.from_residual-in_err-from.ensures.1, ← c.byte_field-field.ensures.answer_value, c.in_ok-code.was, ← c.byte_field-field.ensures.length_value, ← c.rest_of-part.ensures, ← c.byte_field-field-2.ensures.answer_value, c.in_ok-activation.was, ← c.byte_field-field-2.ensures.length_value, ← c.rest_of-part-2.ensures, ← c.byte_field-field-3.ensures.answer_value, c.in_ok-target.was, ← c.byte_field-field-3.ensures.length_value, ← c.rest_of-part-3.ensures, ← c.number_field-field.ensures.answer_value, c.in_err-from.was)

pub returns-in_err-until : goal.returns-in_err-until
unfolding rule_of fields_from following require answer_of ◌>>=◌ ◌>>◌
returns-in_err-until c = simp (told_fault _ _ c.from_residual-in_err-until.ensures.1, ← c.byte_field-field.ensures.answer_value, c.in_ok-code.was, ← c.byte_field-field.ensures.length_value, ← c.rest_of-part.ensures, ← c.byte_field-field-2.ensures.answer_value, c.in_ok-activation.was, ← c.byte_field-field-2.ensures.length_value, ← c.rest_of-part-2.ensures, ← c.byte_field-field-3.ensures.answer_value, c.in_ok-target.was, ← c.byte_field-field-3.ensures.length_value, ← c.rest_of-part-3.ensures, ← c.number_field-field.ensures.answer_value, c.in_ok-from.was, ← c.number_field-field.ensures.length_value, ← c.rest_of-part-4.ensures, ← c.end_field-field.ensures.answer_value, c.in_err-until.was)

pub returns-in_err-condition : goal.returns-in_err-condition
unfolding rule_of fields_from following require answer_of ◌>>=◌ ◌>>◌
returns-in_err-condition c = simp (told _ _ c.from_residual-in_err-condition.ensures.1, ← c.byte_field-field.ensures.answer_value, c.in_ok-code.was, ← c.byte_field-field.ensures.length_value, ← c.rest_of-part.ensures, ← c.byte_field-field-2.ensures.answer_value, c.in_ok-activation.was, ← c.byte_field-field-2.ensures.length_value, ← c.rest_of-part-2.ensures, ← c.byte_field-field-3.ensures.answer_value, c.in_ok-target.was, ← c.byte_field-field-3.ensures.length_value, ← c.rest_of-part-3.ensures, ← c.number_field-field.ensures.answer_value, c.in_ok-from.was, ← c.number_field-field.ensures.length_value, ← c.rest_of-part-4.ensures, ← c.end_field-field.ensures.answer_value, c.in_ok-until.was, ← c.end_field-field.ensures.length_value, ← c.rest_of-part-5.ensures, ← c.condition_field-field.ensures.answer_value, c.in_err-condition.was)

pub returns-in_err-correlation : goal.returns-in_err-correlation
unfolding rule_of fields_from following require answer_of ◌>>=◌ ◌>>◌
returns-in_err-correlation c = simp (told _ _ c.from_residual-in_err-correlation.ensures.1, ← c.byte_field-field.ensures.answer_value, c.in_ok-code.was, ← c.byte_field-field.ensures.length_value, ← c.rest_of-part.ensures, ← c.byte_field-field-2.ensures.answer_value, c.in_ok-activation.was, ← c.byte_field-field-2.ensures.length_value, ← c.rest_of-part-2.ensures, ← c.byte_field-field-3.ensures.answer_value, c.in_ok-target.was, ← c.byte_field-field-3.ensures.length_value, ← c.rest_of-part-3.ensures, ← c.number_field-field.ensures.answer_value, c.in_ok-from.was, ← c.number_field-field.ensures.length_value, ← c.rest_of-part-4.ensures, ← c.end_field-field.ensures.answer_value, c.in_ok-until.was, ← c.end_field-field.ensures.length_value, ← c.rest_of-part-5.ensures, ← c.condition_field-field.ensures.answer_value, c.in_ok-condition.was, ← c.condition_field-field.ensures.length_value, ← c.rest_of-part-6.ensures, ← c.condition_field-field-2.ensures.answer_value, c.in_err-correlation.was)

pub returns : goal.returns
unfolding rule_of fields_from following require answer_of ◌>>=◌ ◌>>◌
returns c = simp (← c.byte_field-field.ensures.answer_value, c.in_ok-code.was, ← c.byte_field-field.ensures.length_value, ← c.rest_of-part.ensures, ← c.byte_field-field-2.ensures.answer_value, c.in_ok-activation.was, ← c.byte_field-field-2.ensures.length_value, ← c.rest_of-part-2.ensures, ← c.byte_field-field-3.ensures.answer_value, c.in_ok-target.was, ← c.byte_field-field-3.ensures.length_value, ← c.rest_of-part-3.ensures, ← c.number_field-field.ensures.answer_value, c.in_ok-from.was, ← c.number_field-field.ensures.length_value, ← c.rest_of-part-4.ensures, ← c.end_field-field.ensures.answer_value, c.in_ok-until.was, ← c.end_field-field.ensures.length_value, ← c.rest_of-part-5.ensures, ← c.condition_field-field.ensures.answer_value, c.in_ok-condition.was, ← c.condition_field-field.ensures.length_value, ← c.rest_of-part-6.ensures, ← c.condition_field-field-2.ensures.answer_value, c.in_ok-correlation.was) c.checked_rule.ensures
