-- `condition::with`, by the count: the slots not in use are those of an empty condition.
use mathlib.Core.Path.{◌≡◌, ap}
use native.Mathlib.Omega.{arith}
use Rattle.declare.specs.Conditions.{comparisons_of}
use Rattle.rule_text.specs.Types.{Condition}
use Rattle.rule_text.specs.Conditions.{condition_of}
use Rattle.rule_text.proofs.condition.with.Goals as goal

pub returns-in-0 : goal.returns-in-0
unfolding comparisons_of condition_of
returns-in-0 c =
    rw c.in-0.is (ap (λ (x : Condition). record { count = 1; first = c.args.next; second = x.second; third = x.third; fourth = x.fourth }) (rw c.in-0.is at c.requires.same))

pub returns-in-1 : goal.returns-in-1
unfolding comparisons_of condition_of
returns-in-1 c =
    rw c.in-1.is (ap (λ (x : Condition). record { count = 2; first = x.first; second = c.args.next; third = x.third; fourth = x.fourth }) (rw c.in-1.is at c.requires.same))

pub returns-in-2 : goal.returns-in-2
unfolding comparisons_of condition_of
returns-in-2 c =
    rw c.in-2.is (ap (λ (x : Condition). record { count = 3; first = x.first; second = x.second; third = c.args.next; fourth = x.fourth }) (rw c.in-2.is at c.requires.same))

pub returns-in_default : goal.returns-in_default
unfolding comparisons_of condition_of
returns-in_default c =
    let three : c.args.condition.count ≡ 3 = omega arith in
    rw three
