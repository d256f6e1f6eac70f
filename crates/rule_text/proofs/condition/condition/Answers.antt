-- `condition::condition`: empty for `-` alone, else comparisons.
use mathlib.Core.Path.{sym, ◌∙◌}
use Rattle.declare.specs.Answers.{answer_of}
use Rattle.rule_text.specs.Conditions.{condition_field}
use Rattle.rule_text.proofs.condition.condition.Goals as goal

pub returns-then-is_dash : goal.returns-then-is_dash
unfolding condition_field answer_of
returns-then-is_dash c = rw (c.no_condition.ensures, sym c.is_dash.ensures ∙ c.if-is_dash.true)

pub returns : goal.returns
unfolding condition_field
returns c = rw (sym c.is_dash.ensures ∙ c.if-is_dash.false) c.comparisons.ensures
