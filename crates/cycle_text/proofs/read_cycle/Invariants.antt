use mathlib.Core.Path.{◌≡◌}
use lib.ListN.{length, take}
use Rattle.declare.specs.Limits.{most_events}
use Rattle.declare.specs.Events.{last_time, empty_slot}
use Rattle.line.proofs.Turns.{Turn}
use Rattle.cycle_text.specs.Cycle.{event_of, in_order}
use Rattle.cycle_text.proofs.read_cycle.Given as goal

abbrev pub invariant-loop-rest : goal.invariant-loop-rest
invariant-loop-rest l =
    record {
      turn : Turn event_of in_order most_events empty_slot l.text l.count l.events l.rest;
      last : l.last ≡ last_time (take l.count l.events);
    }

abbrev pub decreases-loop-rest : goal.decreases-loop-rest
decreases-loop-rest l = length l.rest
