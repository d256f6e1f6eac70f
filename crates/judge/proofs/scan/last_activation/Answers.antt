-- No position passed so far, from p down, is an activation.
use Rattle.std.proofs.Common.{◌≡◌, ◌+◌, ◌-◌, sym, ◌∙◌, arith}
use Rattle.judge.specs.Flags.{flag_at}
use Rattle.judge.proofs.Spans.{last_again, last_found, last_end}
use Rattle.judge.proofs.scan.last_activation.Goals as goal

pub returns-then-row-q : goal.returns-then-row-q
unfolding flag_at
returns-then-row-q c =
    let q : c.loop-q.q - 1 + 1 ≡ c.loop-q.q = omega arith in
    rw q (sym (c.loop-q.invariant ∙ last_found _ _ (omega arith) c.if-row-q.true))

pub loop-q-preserved : goal.loop-q-preserved
unfolding flag_at
loop-q-preserved c = c.loop-q.invariant ∙ last_again _ _ (omega arith) c.if-row-q.false

pub returns : goal.returns
returns c = sym (c.loop-q.invariant ∙ last_end _ _ (λ k a b. absurd (omega arith)))
