-- What was counted, and then the sum.
use Rattle.std.proofs.Common.{rules, arith, sym, ap}
use Rattle.std.proofs.lemmas.Grind.{common_steps}
use Rattle.declare.specs.Answers.{answer_of, ◌>>=◌, ◌>>◌, require}
use Rattle.declare.specs.Refusals.{number_of}
use Rattle.tally.specs.Tally.{with_counted, with_totals}
use Rattle.tally.proofs.Sums.{ends}
use Rattle.tally.proofs.next.Goals as goal

pub returns-in_err-totals : goal.returns-in_err-totals
unfolding with_counted
returns-in_err-totals c = ends _ (search rules) (ap answer_of (sym c.in_err-totals.was))

pub returns : goal.returns
unfolding with_counted with_totals answer_of ◌>>=◌ ◌>>◌ require number_of
returns c = grind (arith, common_steps)
