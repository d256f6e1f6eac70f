-- `comparison::k_answer`, by the reader's answer.
use mathlib.Core.Path.{sym, ◌∙◌}
use Rattle.std.proofs.Common.{rules}
use Rattle.declare.specs.Refusals.{number_of}
use Rattle.declare.specs.Answers.{answer_of}
use Rattle.rule_text.specs.Comparisons.{k_number, k_answer}
use Rattle.rule_text.proofs.comparison.k_answer.Goals as goal

pub returns-in-Ok : goal.returns-in-Ok
unfolding answer_of k_answer
returns-in-Ok c = rw (sym c.integer.ensures ∙ c.in-Ok.is) (search rules)

pub returns-in-Err-Form : goal.returns-in-Err-Form
unfolding answer_of number_of k_answer k_number
returns-in-Err-Form c = rw (sym c.integer.ensures ∙ c.in-Err-Form.is, c.in-Err-Form.field-0-is)

pub returns-in-Err-Range : goal.returns-in-Err-Range
unfolding answer_of number_of k_answer k_number
returns-in-Err-Range c = rw (sym c.integer.ensures ∙ c.in-Err-Range.is, c.in-Err-Range.field-0-is)
