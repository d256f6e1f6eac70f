-- The refusal, and the new run of the table.
use Rattle.std.proofs.Common.{refl}
use Rattle.notebook.specs.Notebook.{notebook_reply, outcome_reply, run_beside}
use Rattle.notebook.proofs.refused.Goals as goal

pub returns : goal.returns
unfolding notebook_reply outcome_reply run_beside
returns c = record { replies = refl; run = c.new_run.ensures }
