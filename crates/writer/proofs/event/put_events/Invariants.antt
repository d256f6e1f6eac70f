use Rattle.std.proofs.Common.{take}
use Rattle.cycle_text.specs.Written.{events_text}
use Rattle.buffer.specs.Puts.{Put}
use Rattle.writer.proofs.event.put_events.Given as goal

abbrev pub invariant-loop-event : goal.invariant-loop-event
invariant-loop-event l = Put (events_text (take l.event-index l.events)) l.initial.out l.out
