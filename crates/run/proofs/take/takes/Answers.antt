-- The causes in their order.
use Rattle.std.proofs.Common.{rules, arith, ap, sym}
use Rattle.std.proofs.lemmas.Grind.{common_steps}
use Rattle.std.proofs.lemmas.Bool.Decides.{nat_tests}
use Rattle.declare.specs.Answers.{answer_of, ◌>>◌, require}
use Rattle.declare.specs.Refusals.{number_of}
use Rattle.declare.specs.Steps.{admits}
use Rattle.run.specs.Calls.{admitted}
use Rattle.run.proofs.Guards.{ends}
use Rattle.run.proofs.take.takes.Goals as goal

pub returns-in_err-running : goal.returns-in_err-running
unfolding admitted
returns-in_err-running c = ends _ (search rules) (ap answer_of (sym c.in_err-running.was))

pub returns-then-not-well_formed : goal.returns-then-not-well_formed
unfolding admitted answer_of number_of admits ◌>>◌ require
returns-then-not-well_formed c = rw c.in_ok-running.was (grind (arith, common_steps))

pub returns-then-event-horizon : goal.returns-then-event-horizon
unfolding admitted answer_of number_of admits ◌>>◌ require
returns-then-event-horizon c = rw c.in_ok-running.was (grind (arith, nat_tests, common_steps))

pub returns-then-count-ge-EVENTS : goal.returns-then-count-ge-EVENTS
unfolding admitted answer_of number_of admits ◌>>◌ require
returns-then-count-ge-EVENTS c = rw c.in_ok-running.was (grind (arith, nat_tests, common_steps))

pub returns : goal.returns
unfolding admitted answer_of admits ◌>>◌ require
returns c = rw c.in_ok-running.was (grind (arith, nat_tests, common_steps))
