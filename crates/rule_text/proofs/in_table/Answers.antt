-- `in_table` makes the check of `in_table`.
use native.Mathlib.Omega.{arith}
use Rattle.declare.specs.Refusals.{number_of}
use Rattle.declare.specs.Answers.{answer_of, ◌>>=◌}
use Rattle.line.proofs.Lines.{told}
use Rattle.rule_text.specs.Reads.{below}
use Rattle.rule_text.proofs.Turns.{full, in_table_lem}
use Rattle.rule_text.proofs.in_table.Goals as goal

pub returns-in_err-rule : goal.returns-in_err-rule
unfolding answer_of below ◌>>=◌
returns-in_err-rule c above n = simp (told _ _ c.from_residual.ensures.1, c.in_err-rule.was)

pub returns-then-count-ge-RULES : goal.returns-then-count-ge-RULES
unfolding answer_of number_of below ◌>>=◌
returns-then-count-ge-RULES c above n = simp (c.in_ok-rule.was, full above c.in_ok-rule.rule (omega arith))

pub returns : goal.returns
unfolding answer_of below ◌>>=◌
returns c above n = simp (c.in_ok-rule.was, in_table_lem above c.in_ok-rule.rule (omega arith))
