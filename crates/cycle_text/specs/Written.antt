-- Events written as a cycle text, and what is proved of writing and reading.
use Rattle.std.specs.Prelude.{◌≡◌, true, List, [], ◌∷◌, ℕ, ◌*◌, ◌≤◌, length}
use Rattle.declare.specs.Lists.{all}
use Rattle.declare.specs.Steps.{Cycle}
use Rattle.number.specs.Written.{digits_of}
use Rattle.line.specs.Fields.{is_byte}
use Rattle.line.specs.Values.{reading_text}
use Rattle.line.specs.Texts.{All, written_text}
use Rattle.cycle_text.specs.Types.{Event}
use Rattle.cycle_text.specs.Cycle.{cycle_text_of}

unfoldable pub event_fields : Event → List (List ℕ)
event_fields e =
    digits_of e.time
    ∷ digits_of e.activity
    ∷ reading_text e.reading1
    ∷ reading_text e.reading2
    ∷ reading_text e.reading3
    ∷ reading_text e.reading4
    ∷ []

unfoldable pub events_text : List Event → List ℕ
events_text es = written_text event_fields es

-- proved in proofs/RoundTrips
pub record RoundTrips : Type 0 where
  -- an accepted text gives events that a run can have taken
  pub valid : (text : List ℕ) (es : List Event) → cycle_text_of text ≡ All es → Cycle es
  -- "a written text reads back as the same records"
  pub read : (es : List Event) → Cycle es → cycle_text_of (events_text es) ≡ All es
  -- "an accepted text comes out again byte for byte"
  pub again : (text : List ℕ) (es : List Event) → cycle_text_of text ≡ All es → events_text es ≡ text

-- proved in proofs/Lengths
pub record WrittenBytes : Type 0 where
  pub bytes : (es : List Event) → Cycle es → all is_byte (events_text es) ≡ true
  -- a line: a time of at most 10 digits, an activity of 2, four readings of at most 11 bytes, five
  -- tabs and LF; so a cycle has at most 15872 bytes
  pub most : (es : List Event) → Cycle es → length (events_text es) ≤ 62 * length es
