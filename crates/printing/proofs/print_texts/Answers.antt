-- By the notebook's outcome.
use native.Mathlib.Omega.{arith}
use Rattle.notebook.proofs.Read.{refused_at}
use Rattle.printing.proofs.Texts.{closed_valid, closed_printed, closed_few, refused_reply, refused_printed, refused_few}
use Rattle.printing.proofs.print_texts.Goals as goal

pub overflow_cast-cause : goal.overflow_cast-cause
overflow_cast-cause c =
    omega (arith, refused_at _ _ _ _ _ (refused_reply _ _ _ c.read_notebook-read.ensures.result_value _ c.in-Err.is))

pub returns-in-Ok : goal.returns-in-Ok
returns-in-Ok c =
    let replies = c.read_notebook-read.ensures.result_value in
    let closed = c.in-Ok.is in
    record {
      writes = rw (closed_valid _ _ _ replies closed, closed_printed _ _ _ replies closed) at c.write_report.ensures;
      few = closed_few _ _ _ replies closed;
    }

pub returns-in-Err : goal.returns-in-Err
returns-in-Err c =
    let replies = c.read_notebook-read.ensures.result_value in
    let refused = c.in-Err.is in
    record {
      writes = rw (c.number.ensures, refused_printed _ _ _ replies _ refused) at c.write_refused.ensures;
      few = refused_few _ _ _ replies _ refused (omega (arith, c.number.ensures));
    }
