-- The chain goes over the tests in use.
use Rattle.std.proofs.Common.{rules, tests, ◌≡◌, ◌∙◌, sym}
use Rattle.std.proofs.lemmas.Iterator.{YieldsList-from_slice}
use Rattle.std.proofs.lemmas.Iterator.Search.{all_from_yields_List}
use Rattle.std.specs.List.{list_all}
use Rattle.declare.specs.Comparisons.{passes}
use Rattle.declare.proofs.Chains.{all_listed}
use Rattle.condition.specs.Bound.{test_list}
use Rattle.condition.proofs.bound.all_pass.Goals as goal

pub returns : goal.returns
returns c =
    let ts = test_list c.args.tests in
    let e : c.all.result ≡ list_all (passes c.args.e) ts = all_from_yields_List (passes c.args.e) _ _ _ c.all.ensures.ran (YieldsList-from_slice ts cc) (λ x b q k. search (rules, tests)) in
    e ∙ sym (all_listed (passes c.args.e) ts)
