-- The causes in their order, then what is stored.
use Rattle.std.proofs.Common.{sym, arith}
use Rattle.std.proofs.lemmas.Grind.{common_steps}
use Rattle.std.proofs.lemmas.Bool.Decides.{nat_tests}
use Rattle.declare.specs.Answers.{answer_of, ◌>>◌, require}
use Rattle.declare.specs.Refusals.{number_of}
use Rattle.run.specs.Queries.{totals_of}
use Rattle.run.proofs.Bounds.{valid_parts}
use Rattle.run.proofs.Run.totals.Goals as goal

pub returns-then-not-is_valid : goal.returns-then-not-is_valid
unfolding answer_of totals_of ◌>>◌ require number_of
returns-then-not-is_valid c = grind (arith, common_steps)

pub returns-then-not-one_of : goal.returns-then-not-one_of
unfolding answer_of totals_of ◌>>◌ require number_of
returns-then-not-one_of c = grind (arith, common_steps)

pub offset_bounds-self-rule : goal.offset_bounds-self-rule
offset_bounds-self-rule c =
    let fit = (valid_parts _ (sym c.if-not-is_valid.ensures)).rules_fit in
    grind (arith, nat_tests, common_steps)

pub bounds-self-rule : goal.bounds-self-rule
bounds-self-rule c =
    let fit = (valid_parts _ (sym c.if-not-is_valid.ensures)).rules_fit in
    grind (arith, nat_tests, common_steps)

pub returns : goal.returns
unfolding answer_of totals_of ◌>>◌ require
returns c = grind (arith, common_steps)
