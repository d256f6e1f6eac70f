-- The causes in their order.
use Rattle.std.proofs.Common.{rules, arith, ◌≡◌, Err}
use Rattle.std.proofs.lemmas.Grind.{common_steps}
use Rattle.std.proofs.lemmas.Bool.Decides.{nat_tests}
use Rattle.declare.specs.Answers.{answer_of, ◌>>◌, require}
use Rattle.declare.specs.Refusals.{number_of}
use Rattle.declare.specs.Steps.{admits}
use Rattle.run.specs.Calls.{admitted, kept_time}
use Rattle.run.proofs.notice.notices.Goals as goal

pub returns-in_err-running : goal.returns-in_err-running
unfolding kept_time admitted answer_of ◌>>◌
returns-in_err-running c =
    let e : c.from_residual.result ≡ Err c.in_err-running.field-0.0 = search rules in
    rw (e, c.in_err-running.was)

pub returns-in_default : goal.returns-in_default
unfolding kept_time admitted answer_of number_of admits ◌>>◌ require
returns-in_default c = rw c.in_ok-running.was (grind (arith, nat_tests, common_steps))

pub returns-then-clock-horizon : goal.returns-then-clock-horizon
unfolding kept_time admitted answer_of number_of admits ◌>>◌ require
returns-then-clock-horizon c = rw c.in_ok-running.was (grind (arith, nat_tests, common_steps))

pub returns : goal.returns
unfolding kept_time admitted answer_of admits ◌>>◌ require
returns c = rw c.in_ok-running.was (grind (arith, nat_tests, common_steps))
