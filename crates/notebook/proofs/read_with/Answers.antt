-- By the answer of the cycle text.
use Rattle.std.proofs.Common.{◌≡◌}
use Rattle.std.proofs.lemmas.Result.{IfOk-at_ok}
use Rattle.cycle_text.specs.declared.Events.{Events}
use Rattle.cycle_text.specs.Reads.{events_in, slots_of}
use Rattle.cycle_text.proofs.Accepted.{accepted_events, refused_text}
use Rattle.notebook.proofs.Replies.{cycle_refused, cycle_accepted}
use Rattle.notebook.proofs.read_with.Goals as goal

pub returns-in-Ok : goal.returns-in-Ok
returns-in-Ok c =
    let cycle = c.read_cycle in
    cycle_accepted _ _ c.in-Ok.read _ (IfOk-at_ok (λ (x : Events). x ≡ slots_of (events_in x)) c.in-Ok.is cycle.ensures.slots)
    (accepted_events _ _ cycle.ensures _ c.in-Ok.is) c.finished.ensures

pub returns-in-Err : goal.returns-in-Err
returns-in-Err c = cycle_refused _ _ c.in-Err.cause _ (refused_text _ _ c.read_cycle.ensures _ c.in-Err.is) c.refused.ensures
