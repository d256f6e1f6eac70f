-- Equal rule by rule.
use Rattle.std.proofs.Common.{rules, arith, ◌≡◌, ◌∙◌, length, get_or}
use Rattle.declare.proofs.Lists.{all_same}
use Rattle.standings.specs.Totals.{no_totals}
use Rattle.run.proofs.Checks.{same_below}
use Rattle.run.proofs.Stored.{same_by_fields}
use Rattle.run.proofs.record.valid_totals.Goals as goal

pub returns : goal.returns
returns c =
    let a = c.args in
    let stored : length a.stored.now ≡ 16 = search rules in
    let counted : length a.counted.now ≡ 16 = search rules in
    c.eq.ensures
    ∙ same_below _ a.rules a.stored.now a.counted.now no_totals no_totals (omega (arith, c.requires)) (omega (arith, c.requires))
    ∙ all_same _ _ a.rules (λ k _. same_by_fields (get_or a.stored.now k no_totals) (get_or a.counted.now k no_totals))
