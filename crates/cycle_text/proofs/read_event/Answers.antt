-- `cycle_text::read_event`: the fields give what the definition gives, field by field.
use Rattle.declare.specs.Answers.{answer_of, ◌>>=◌, ◌>>◌, require}
use Rattle.line.specs.Fields.{following, fields_from}
use Rattle.line.proofs.Lines.{told_fault}
use Rattle.cycle_text.specs.Cycle.{event_of}
use Rattle.cycle_text.proofs.read_event.Goals as goal

pub returns-in_err-time : goal.returns-in_err-time
unfolding event_of fields_from following require answer_of ◌>>=◌ ◌>>◌
returns-in_err-time c = simp (told_fault _ _ c.from_residual.ensures.1, ← c.number_field-field.ensures.answer_value, c.in_err-time.was)

pub returns-in_err-activity : goal.returns-in_err-activity
unfolding event_of fields_from following require answer_of ◌>>=◌ ◌>>◌
returns-in_err-activity c = simp (told_fault _ _ c.from_residual-in_err-activity.ensures.1, ← c.number_field-field.ensures.answer_value, c.in_ok-time.was, ← c.number_field-field.ensures.length_value, ← c.rest_of-part.ensures, ← c.byte_field-field.ensures.answer_value, c.in_err-activity.was)

pub returns-in_err-reading1 : goal.returns-in_err-reading1
unfolding event_of fields_from following require answer_of ◌>>=◌ ◌>>◌
returns-in_err-reading1 c = simp (told_fault _ _ c.from_residual-in_err-reading1.ensures.1, ← c.number_field-field.ensures.answer_value, c.in_ok-time.was, ← c.number_field-field.ensures.length_value, ← c.rest_of-part.ensures, ← c.byte_field-field.ensures.answer_value, c.in_ok-activity.was, ← c.byte_field-field.ensures.length_value, ← c.rest_of-part-2.ensures, ← c.reading_field-field.ensures.answer_value, c.in_err-reading1.was)

pub returns-in_err-reading2 : goal.returns-in_err-reading2
unfolding event_of fields_from following require answer_of ◌>>=◌ ◌>>◌
returns-in_err-reading2 c = simp (told_fault _ _ c.from_residual-in_err-reading2.ensures.1, ← c.number_field-field.ensures.answer_value, c.in_ok-time.was, ← c.number_field-field.ensures.length_value, ← c.rest_of-part.ensures, ← c.byte_field-field.ensures.answer_value, c.in_ok-activity.was, ← c.byte_field-field.ensures.length_value, ← c.rest_of-part-2.ensures, ← c.reading_field-field.ensures.answer_value, c.in_ok-reading1.was, ← c.reading_field-field.ensures.length_value, ← c.rest_of-part-3.ensures, ← c.reading_field-field-2.ensures.answer_value, c.in_err-reading2.was)

pub returns-in_err-reading3 : goal.returns-in_err-reading3
unfolding event_of fields_from following require answer_of ◌>>=◌ ◌>>◌
returns-in_err-reading3 c = simp (told_fault _ _ c.from_residual-in_err-reading3.ensures.1, ← c.number_field-field.ensures.answer_value, c.in_ok-time.was, ← c.number_field-field.ensures.length_value, ← c.rest_of-part.ensures, ← c.byte_field-field.ensures.answer_value, c.in_ok-activity.was, ← c.byte_field-field.ensures.length_value, ← c.rest_of-part-2.ensures, ← c.reading_field-field.ensures.answer_value, c.in_ok-reading1.was, ← c.reading_field-field.ensures.length_value, ← c.rest_of-part-3.ensures, ← c.reading_field-field-2.ensures.answer_value, c.in_ok-reading2.was, ← c.reading_field-field-2.ensures.length_value, ← c.rest_of-part-4.ensures, ← c.reading_field-field-3.ensures.answer_value, c.in_err-reading3.was)

pub returns-in_err-reading4 : goal.returns-in_err-reading4
unfolding event_of fields_from following require answer_of ◌>>=◌ ◌>>◌
returns-in_err-reading4 c = simp (told_fault _ _ c.from_residual-in_err-reading4.ensures.1, ← c.number_field-field.ensures.answer_value, c.in_ok-time.was, ← c.number_field-field.ensures.length_value, ← c.rest_of-part.ensures, ← c.byte_field-field.ensures.answer_value, c.in_ok-activity.was, ← c.byte_field-field.ensures.length_value, ← c.rest_of-part-2.ensures, ← c.reading_field-field.ensures.answer_value, c.in_ok-reading1.was, ← c.reading_field-field.ensures.length_value, ← c.rest_of-part-3.ensures, ← c.reading_field-field-2.ensures.answer_value, c.in_ok-reading2.was, ← c.reading_field-field-2.ensures.length_value, ← c.rest_of-part-4.ensures, ← c.reading_field-field-3.ensures.answer_value, c.in_ok-reading3.was, ← c.reading_field-field-3.ensures.length_value, ← c.rest_of-part-5.ensures, ← c.reading_field-field-4.ensures.answer_value, c.in_err-reading4.was)

pub returns : goal.returns
unfolding event_of fields_from following require answer_of ◌>>=◌ ◌>>◌
returns c = simp (← c.number_field-field.ensures.answer_value, c.in_ok-time.was, ← c.number_field-field.ensures.length_value, ← c.rest_of-part.ensures, ← c.byte_field-field.ensures.answer_value, c.in_ok-activity.was, ← c.byte_field-field.ensures.length_value, ← c.rest_of-part-2.ensures, ← c.reading_field-field.ensures.answer_value, c.in_ok-reading1.was, ← c.reading_field-field.ensures.length_value, ← c.rest_of-part-3.ensures, ← c.reading_field-field-2.ensures.answer_value, c.in_ok-reading2.was, ← c.reading_field-field-2.ensures.length_value, ← c.rest_of-part-4.ensures, ← c.reading_field-field-3.ensures.answer_value, c.in_ok-reading3.was, ← c.reading_field-field-3.ensures.length_value, ← c.rest_of-part-5.ensures, ← c.reading_field-field-4.ensures.answer_value, c.in_ok-reading4.was)
