-- By the standing.
use Rattle.buffer.proofs.Puts.{put_none}
use Rattle.buffer.proofs.Lines.{put_single}
use Rattle.line.specs.Texts.{written_text}
use Rattle.printing.specs.Lines.{line_fields}
use Rattle.printing.specs.Report.{position_lines}
use Rattle.printing.proofs.activation.put_position.Goals as goal

pub returns-in-Idle : goal.returns-in-Idle
unfolding position_lines written_text
returns-in-Idle c = rw c.in-Idle.is (put_none _)

pub returns-in-Open : goal.returns-in-Open
unfolding position_lines
returns-in-Open c =
    rw c.in-Open.is (put_single line_fields _ c.put_activation.ensures)

pub returns-in-Fulfilled : goal.returns-in-Fulfilled
unfolding position_lines
returns-in-Fulfilled c =
    rw c.in-Fulfilled.is (put_single line_fields _ c.put_activation-in-Fulfilled.ensures)

pub returns-in-Violated : goal.returns-in-Violated
unfolding position_lines
returns-in-Violated c =
    rw c.in-Violated.is (put_single line_fields _ c.put_activation-in-Violated.ensures)
