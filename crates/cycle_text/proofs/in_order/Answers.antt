-- `cycle_text::in_order` makes the checks of `in_order`, in the same order.
use native.Mathlib.Omega.{arith}
use Rattle.declare.specs.Refusals.{number_of}
use Rattle.declare.specs.Answers.{answer_of, ◌>>=◌}
use Rattle.line.proofs.Lines.{told}
use Rattle.cycle_text.specs.Reads.{below}
use Rattle.cycle_text.proofs.Turns.{falls, full, in_order_lem}
use Rattle.cycle_text.proofs.in_order.Goals as goal

pub returns-in_err-event : goal.returns-in_err-event
unfolding answer_of below ◌>>=◌
returns-in_err-event c above l n = simp (told _ _ c.from_residual.ensures.1, c.in_err-event.was)

pub returns-then-event-last : goal.returns-then-event-last
unfolding answer_of number_of below ◌>>=◌
returns-then-event-last c above l n = simp (c.in_ok-event.was, falls above c.in_ok-event.event (omega arith))

pub returns-then-count-ge-EVENTS : goal.returns-then-count-ge-EVENTS
unfolding answer_of number_of below ◌>>=◌
returns-then-count-ge-EVENTS c above l n =
    simp (c.in_ok-event.was, full above c.in_ok-event.event (omega arith) (omega arith))

pub returns : goal.returns
unfolding answer_of below ◌>>=◌
returns c above l n = simp (c.in_ok-event.was, in_order_lem above c.in_ok-event.event (omega arith) (omega arith))
