-- `comparison::operator_of`, byte by byte.
use borrow.Author.Rules.{rules}
use Rattle.declare.specs.Refusals.{number_of}
use Rattle.declare.specs.Answers.{answer_of}
use Rattle.rule_text.specs.Comparisons.{operator_of}
use Rattle.rule_text.proofs.comparison.operator_of.Goals as goal

pub returns-in-61 : goal.returns-in-61
unfolding operator_of answer_of number_of
returns-in-61 c = rw c.in-61.is

pub returns-in-33 : goal.returns-in-33
unfolding operator_of answer_of number_of
returns-in-33 c = rw c.in-33.is

pub returns-in-60 : goal.returns-in-60
unfolding operator_of answer_of number_of
returns-in-60 c = rw c.in-60.is

pub returns-in-108 : goal.returns-in-108
unfolding operator_of answer_of number_of
returns-in-108 c = rw c.in-108.is

pub returns-in-62 : goal.returns-in-62
unfolding operator_of answer_of number_of
returns-in-62 c = rw c.in-62.is

pub returns-in-103 : goal.returns-in-103
unfolding operator_of answer_of number_of
returns-in-103 c = rw c.in-103.is

pub returns-in_default : goal.returns-in_default
unfolding operator_of answer_of number_of
returns-in_default c = search rules
