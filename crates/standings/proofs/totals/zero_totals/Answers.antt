-- The slots of the rules passed are begun; past the rules all stay as they are.
use mathlib.Core.Path.{◌≡◌, ap₂, ◌∙◌}
use Prim.Native.Nat.{◌<◌}
use native.Mathlib.Omega.{arith}
use borrow.Author.Tests.{lt-ltb, le-ltb}
use lib.ListN.{length}
use Rattle.declare.specs.Limits.{most_rules}
use Rattle.declare.specs.Rules.{no_comparison, no_condition, no_rule}
use Rattle.declare.proofs.Sweeps.{swept_none, swept_again, swept_skip, swept_all}
use Rattle.standings.specs.Totals.{no_totals, with_standing, zero_totals}
use Rattle.standings.proofs.Places.{zero_is}
use Rattle.standings.proofs.totals.zero_totals.Goals as goal

pub loop-k-init : goal.loop-k-init
loop-k-init c = (omega arith, swept_none _ _)

pub loop-k-preserved : goal.loop-k-preserved
unfolding no_rule no_condition no_comparison
loop-k-preserved c =
    let l = c.loop-k in
    let rules = c.min-rules in
    let a = c.args in
    let full : length a.totals ≡ most_rules = search rules in
    let low : l.k < a.table.count = omega (arith, rules.ensures) in
    let few : l.k < most_rules = omega (arith, rules.ensures) in (
      omega arith,
      swept_again l.invariant.1 no_totals (omega (arith, few, full))
          (rw (lt-ltb l.k a.table.count low) (c.with_standing.ensures ∙ ap₂ with_standing c.no_totals.ensures (c.zero_of-zero.ensures ∙ zero_is a.table a.overall l.k low))),
    )

pub returns : goal.returns
unfolding zero_totals
returns c =
    let rules = c.min-rules in
    let a = c.args in
    let full : length a.totals ≡ most_rules = search rules in
    swept_all
    (swept_skip c.loop-k.invariant.1 most_rules (omega (arith, rules.ensures))
    (λ i b d x. rw (le-ltb i a.table.count (omega (arith, rules.ensures, b, d)))))
    (omega (arith, full))
