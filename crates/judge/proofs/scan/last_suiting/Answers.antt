-- No event passed so far, from stop down, suits.
use Rattle.std.proofs.Common.{◌≡◌, ◌+◌, ◌-◌, sym, ◌∙◌, arith}
use borrow.Author.Tests.{lt-ltb}
use Rattle.declare.proofs.Booleans.{both}
use Rattle.declare.proofs.Positions.{not_past, not_passing}
use Rattle.judge.specs.Columns.{suits_in}
use Rattle.judge.proofs.Spans.{last_again, last_found, last_end}
use Rattle.judge.proofs.scan.last_suiting.Goals as goal

pub returns-then-suits_at-clause-last : goal.returns-then-suits_at-clause-last
returns-then-suits_at-clause-last c =
    let q : c.loop-q.q - 1 + 1 ≡ c.loop-q.q = omega arith in
    rw q (sym (c.loop-q.invariant ∙ last_found _ _ (omega arith) (both (lt-ltb _ _ c.loop-q-test.true) (sym c.suits_at.ensures ∙ c.if-suits_at.true))))

pub loop-q-preserved : goal.loop-q-preserved
loop-q-preserved c =
    let a = c.args in
    c.loop-q.invariant ∙ last_again _ _ (omega arith) (not_passing (suits_in a.bound.now a.columns.now) _ _ (sym c.suits_at.ensures ∙ c.if-suits_at.false))

pub returns-clause-last : goal.returns-clause-last
returns-clause-last c =
    let a = c.args in
    sym (c.loop-q.invariant ∙ last_end _ _ (λ k b d. not_past (suits_in a.bound.now a.columns.now) _ k (omega arith)))
