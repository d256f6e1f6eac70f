-- By the end.
use Rattle.rule_text.specs.Written.{end_text}
use Rattle.writer.proofs.rule.put_end.Goals as goal

pub returns-in-None : goal.returns-in-None
unfolding end_text
returns-in-None c = rw c.in-None.is c.put_byte.ensures

pub returns-in-Some : goal.returns-in-Some
unfolding end_text
returns-in-Some c = rw c.in-Some.is c.put_number.ensures
