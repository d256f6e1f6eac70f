-- What the reader promises of a line below others, and of a text.
use Rattle.std.specs.Prelude.{◌≡◌, List, ℕ, length, take, Result, IfOk}
use Rattle.declare.specs.Slots.{event_slots}
use Rattle.declare.specs.Answers.{Answer, ◌>>=◌}
use Rattle.line.specs.Texts.{records_read}
use Rattle.cycle_text.specs.Types.{Event, Events, LineRefusal}
use Rattle.cycle_text.specs.Cycle.{in_order, cycle_text_of}

-- an event's line, once it is read, below others
unfoldable pub below : List Event → Answer Event → Answer Event
below above answer = do
  event ← answer
  in_order above event

-- the first count events
unfoldable pub events_in : Events → List Event
events_in e = take e.count e.events

-- some events, and the slots that are not filled
unfoldable pub slots_of : List Event → Events
slots_of es = record { count = length es; events = event_slots es }

-- what read_cycle promises of a text
pub record ReadsCycle (text : List ℕ) (r : Result Events LineRefusal) : Type 0 where
  pub records : records_read events_in r ≡ cycle_text_of text
  pub slots : IfOk r (λ e. e ≡ slots_of (events_in e))
