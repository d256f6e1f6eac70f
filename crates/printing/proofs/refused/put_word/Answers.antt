-- By the text.
use Rattle.printing.specs.Report.{word_of}
use Rattle.printing.proofs.refused.put_word.Goals as goal

pub returns-in-Rules : goal.returns-in-Rules
unfolding word_of
returns-in-Rules c =
    rw c.in-Rules.is c.put_refused.ensures

pub returns-in-Cycle : goal.returns-in-Cycle
unfolding word_of
returns-in-Cycle c =
    rw c.in-Cycle.is c.put_refused-in-Cycle.ensures
