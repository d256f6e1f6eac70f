-- What is found at i or before is the nearest; if nothing is, the first after it is.
use Rattle.std.proofs.Common.{sym, ◌∙◌, arith}
use Rattle.declare.proofs.Nearest.{nearest_up_to, nearest_past}
use Rattle.judge.proofs.Spans.{past_start}
use Rattle.judge.proofs.scan.nearest_suiting.Goals as goal

pub returns-then-j-gt0-clause-nearest : goal.returns-then-j-gt0-clause-nearest
returns-then-j-gt0-clause-nearest c =
    nearest_up_to _ _ _ _ (rw c.min.ensures at c.last_suiting-j.ensures.last) c.if-j-gt0.true

pub returns-clause-nearest : goal.returns-clause-nearest
returns-clause-nearest c =
    c.first_suiting.ensures.first ∙ sym (past_start _ _ _ _ c.requires.begun)
    ∙ sym (nearest_past _ _ _ _ (rw c.min.ensures at c.last_suiting-j.ensures.last) (omega (arith, c.if-j-gt0.false)))
