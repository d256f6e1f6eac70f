-- The activity, then the window, then the tests.
use Rattle.std.proofs.Common.{◌≡◌, ◌∙◌, arith}
use Rattle.std.proofs.lemmas.Grind.{common_steps}
use Rattle.declare.specs.Lists.{all}
use Rattle.declare.specs.Comparisons.{passes}
use Rattle.condition.specs.Bound.{test_list, suits_bound}
use Rattle.judge.specs.Columns.{event_in}
use Rattle.judge.proofs.Checks.{places_low, checks_answer}
use Rattle.judge.proofs.scan.suits_at.Goals as goal

pub all_pass_at-requires-clause-places : goal.all_pass_at-requires-clause-places
all_pass_at-requires-clause-places c = rw c.requires.ready (places_low (test_list c.args.bound.now.tests))

pub returns-then-within : goal.returns-then-within
unfolding suits_bound event_in
returns-then-within c =
    let a = c.args in
    let e : c.all_pass_at.result ≡ all (passes (event_in a.columns.now a.q)) (test_list a.bound.now.tests) = rw c.requires.ready at c.all_pass_at.ensures ∙ checks_answer a.columns.now a.q (test_list a.bound.now.tests) in
    grind (arith, common_steps)

pub returns-else-within : goal.returns-else-within
unfolding suits_bound event_in
returns-else-within c = grind (arith, common_steps)
