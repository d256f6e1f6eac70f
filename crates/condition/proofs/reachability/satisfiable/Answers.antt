-- Without tests a blank will do; else reading after reading.
use Rattle.std.proofs.Common.{tests, ◌≡◌, [], ◌∷◌, rules, arith, ◌∙◌, sym}
use Rattle.std.proofs.lemmas.Grind.{common_steps}
use Rattle.std.proofs.lemmas.Iterator.{YieldsList-from_slice}
use Rattle.std.proofs.lemmas.Iterator.Search.{all_from_yields_List}
use Rattle.std.specs.List.{list_all}
use Rattle.declare.specs.Lists.{all, any}
use Rattle.declare.specs.Events.{in_range}
use Rattle.declare.specs.Reachability.{meets, candidates, some_meets, satisfiable}
use Rattle.declare.proofs.Chains.{all_listed}
use Rattle.condition.proofs.reachability.satisfiable.Goals as goal

pub returns-then-is_empty : goal.returns-then-is_empty
unfolding satisfiable some_meets candidates meets in_range all any
returns-then-is_empty c = grind (arith, common_steps)

pub returns-else-is_empty : goal.returns-else-is_empty
unfolding satisfiable
returns-else-is_empty c =
    let ts = c.args.tests.now in
    let e : c.all.result ≡ list_all (some_meets ts) (1 ∷ 2 ∷ 3 ∷ 4 ∷ []) = all_from_yields_List (some_meets ts) _ _ _ c.all.ensures.ran (YieldsList-from_slice (1 ∷ 2 ∷ 3 ∷ 4 ∷ []) cc) (λ x b q k. search (rules, tests)) in
    e ∙ sym (all_listed (some_meets ts) (1 ∷ 2 ∷ 3 ∷ 4 ∷ []))
