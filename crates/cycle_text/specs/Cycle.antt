-- What a cycle text holds, by document 01: its lines, their fields, the fields' values, and the
-- order of the checks: in a line 12, 1, then field by field 2, 3, then 7, then 8; `text_of` has 12.
use Rattle.std.specs.Prelude.{List, [], ℕ, eqb, leb, ltb, length, get_or}
use Rattle.declare.specs.Limits.{last_activity, most_events}
use Rattle.declare.specs.Events.{latest, last_time}
use Rattle.declare.specs.Answers.{Answer, accepted, ◌>>=◌, ◌>>◌, require}
use Rattle.line.specs.Values.{number_field, reading_field}
use Rattle.line.specs.Texts.{Records, text_of}
use Rattle.cycle_text.specs.Types.{Event}

-- "a cycle line: time, activity, four readings"
abbrev pub event_field_count : ℕ
event_field_count = 6

unfoldable pub event_of : List (List ℕ) → Answer Event
event_of fields = do
  require (eqb (length fields) event_field_count) 1
  time ← number_field 0 latest (get_or fields 0 [])
  activity ← number_field 1 last_activity (get_or fields 1 [])
  reading1 ← reading_field (get_or fields 2 [])
  reading2 ← reading_field (get_or fields 3 [])
  reading3 ← reading_field (get_or fields 4 [])
  reading4 ← reading_field (get_or fields 5 [])
  accepted (record { time = time; activity = activity; reading1 = reading1; reading2 = reading2; reading3 = reading3; reading4 = reading4 })

-- "time below the last taken" is 7, the "257th event" 8
unfoldable pub in_order : List Event → Event → Answer Event
in_order above event = do
  require (leb (last_time above) event.time) 7
  require (ltb (length above) most_events) 8
  accepted event

-- a line below others
unfoldable pub event_after : List Event → List (List ℕ) → Answer Event
event_after above fields = do
  event ← event_of fields
  in_order above event

-- the events of a cycle text; or the number of the first refusal, and its line
unfoldable pub cycle_text_of : List ℕ → Records Event
cycle_text_of text = text_of event_after text
