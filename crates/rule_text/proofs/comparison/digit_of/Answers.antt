-- `comparison::digit_of`: the bytes 49 to 52.
use native.Mathlib.Omega.{arith}
use borrow.Author.Tests.{le-leb, lt-leb}
use Rattle.declare.specs.Refusals.{number_of}
use Rattle.declare.specs.Answers.{answer_of, ◌>>◌, require}
use Rattle.rule_text.specs.Comparisons.{reading_digit, digit_of}
use Rattle.rule_text.proofs.comparison.digit_of.Goals as goal

pub returns-in-49-to-52 : goal.returns-in-49-to-52
unfolding answer_of digit_of reading_digit require ◌>>◌
returns-in-49-to-52 c = simp (le-leb 49 c.args.byte (omega arith), le-leb c.args.byte 52 (omega arith))

pub returns-in_default : goal.returns-in_default
unfolding answer_of number_of digit_of reading_digit require ◌>>◌
returns-in_default c = simp (lt-leb 49 c.args.byte (omega arith))

pub returns-in_default-2 : goal.returns-in_default-2
unfolding answer_of number_of digit_of reading_digit require ◌>>◌
returns-in_default-2 c = simp (le-leb 49 c.args.byte (omega arith), lt-leb c.args.byte 52 (omega arith))
