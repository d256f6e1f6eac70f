-- The totals, and then whether the run is closed.
use Rattle.std.proofs.Common.{rules, arith, ◌∙◌, sym}
use Rattle.std.proofs.lemmas.Grind.{common_steps}
use Rattle.declare.specs.Answers.{answer_of, ◌>>◌, require}
use Rattle.declare.specs.Refusals.{number_of}
use Rattle.tally.proofs.Sums.{by_totals, ends, goes_on}
use Rattle.tally.proofs.totals_of.Goals as goal

pub returns-in_err-totals : goal.returns-in_err-totals
returns-in_err-totals c = ends _ (search rules) c.in_err-totals.ensures ∙ sym (by_totals _ _)

pub returns-then-not-run : goal.returns-then-not-run
unfolding answer_of number_of ◌>>◌ require
returns-then-not-run c = rw (by_totals c.args.run c.args.rule, ← goes_on _ c.in_ok-totals.ensures) (grind (arith, common_steps))

pub returns : goal.returns
unfolding answer_of ◌>>◌ require
returns c = rw (by_totals c.args.run c.args.rule, ← goes_on _ c.in_ok-totals.ensures) (grind (arith, common_steps))
