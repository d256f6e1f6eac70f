-- No event passed so far suits.
use Rattle.std.proofs.Common.{sym, ◌∙◌, arith}
use Rattle.judge.proofs.ByColumn.{suits_next}
use Rattle.judge.proofs.Spans.{first_begin, first_again, first_found, first_end}
use Rattle.judge.proofs.scan.first_suiting.Goals as goal

pub loop-q-init : goal.loop-q-init
loop-q-init c = first_begin _ _

pub returns-then-suits_at-clause-first : goal.returns-then-suits_at-clause-first
returns-then-suits_at-clause-first c =
    first_found _ _ _ _ c.loop-q.invariant (omega arith) (omega arith) (suits_next _ _ _ ∙ sym c.suits_at.ensures ∙ c.if-suits_at.true)

pub loop-q-preserved : goal.loop-q-preserved
loop-q-preserved c =
    first_again _ _ _ c.loop-q.invariant (suits_next _ _ _ ∙ sym c.suits_at.ensures ∙ c.if-suits_at.false)

pub returns-clause-first : goal.returns-clause-first
returns-clause-first c = sym (first_end _ _ _ _ c.loop-q.invariant (omega arith))
