-- `rule::checked_rule`: the tests of the definition, in its order.
use mathlib.Core.Path.{sym, ◌∙◌}
use Rattle.declare.specs.Refusals.{number_of}
use Rattle.declare.specs.Answers.{answer_of}
use Rattle.declare.proofs.Answers.{passed, stopped}
use Rattle.rule_text.specs.Rules.{checked_rule}
use Rattle.rule_text.proofs.rule.checked_rule.Goals as goal

pub returns-then-not-is_above : goal.returns-then-not-is_above
unfolding answer_of number_of checked_rule
returns-then-not-is_above c = sym (stopped 6 _ (sym c.is_above.ensures ∙ c.if-not-is_above.true))

pub returns-then-not-fits_template : goal.returns-then-not-fits_template
unfolding answer_of number_of checked_rule
returns-then-not-fits_template c =
    sym (passed 6 _ (sym c.is_above.ensures ∙ c.if-not-is_above.false) ∙ stopped 16 _ (sym c.fits_template.ensures ∙ c.if-not-fits_template.true))

pub returns : goal.returns
unfolding answer_of checked_rule
returns c =
    sym (passed 6 _ (sym c.is_above.ensures ∙ c.if-not-is_above.false) ∙ passed 16 _ (sym c.fits_template.ensures ∙ c.if-not-fits_template.false))
