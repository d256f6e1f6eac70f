-- The chain over the rules in use, beside their cells.
use Rattle.std.proofs.Common.{rules, arith, ◌≡◌, ◌∙◌, Bool, not, ◌||◌, length, take}
use Rattle.std.proofs.lemmas.Iterator.{YieldsList-from_slice, YieldsList-from_zip}
use Rattle.std.proofs.lemmas.Iterator.Consumers.{YieldsList-at}
use Rattle.std.proofs.lemmas.Iterator.Search.{all_from_yields_List}
use borrow.Author.Tests.{tests}
use Rattle.std.specs.List.{list_all, zip}
use Rattle.declare.specs.declared.Rule.{Rule}
use Rattle.declare.specs.Overall.{is_overall}
use Rattle.declare.specs.Rules.{no_rule}
use Rattle.declare.proofs.Lists.{all_same}
use Rattle.standings.specs.declared.Cell.{Cell}
use Rattle.standings.specs.Places.{idle_cell}
use Rattle.standings.proofs.Places.{zero_check, zero_cell}
use Rattle.run.specs.Records.{valid_zero, valid_overall}
use Rattle.run.proofs.Checks.{zipped_below}
use Rattle.run.proofs.record.valid_overall.Goals as goal

pub returns : goal.returns
unfolding valid_overall
returns c =
    let a = c.args in
    let rules16 : length a.table.rules ≡ 16 = search rules in
    let cells16 : length a.overall ≡ 16 = search rules in
    let test : Rule × Cell → Bool = λ p. not (is_overall p.0.code) || valid_zero a.closed a.count p.1.standing in
    let chain : c.all.result ≡ list_all test (zip (take a.table.count a.table.rules) a.overall) =
    all_from_yields_List test c.all.new.self _ _ c.all.ensures.ran
    (YieldsList-from_zip (YieldsList-at c.zip.ensures.first (YieldsList-from_slice (take a.table.count a.table.rules) (cc))) (YieldsList-from_slice {s = c.zip.result.b} a.overall c.zip.ensures.second.0))
    (λ x b q k. search (rules, tests)) in
    chain
    ∙ zipped_below test a.table.count a.table.rules a.overall no_rule idle_cell (omega (arith, c.requires)) (omega (arith, c.requires))
    ∙ all_same _ _ a.table.count (λ k low. rw (zero_check a.table k low, zero_cell a.overall k))
