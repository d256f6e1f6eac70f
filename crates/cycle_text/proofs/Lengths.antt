-- A written cycle text is bytes, at most 62 a line: each field of a well-formed event by its range,
-- then a line and a text by the laws of texts.
use mathlib.Core.Path.{◌≡◌}
use mathlib.Core.Bool.{true}
use mathlib.Core.List.{List, [], ◌∷◌}
use Prim.Native.Nat.{ℕ, ◌*◌}
use native.Mathlib.Omega.{arith}
use lib.ListN.{length}
use Rattle.declare.specs.Events.{well_formed}
use Rattle.declare.specs.Steps.{Cycle}
use Rattle.line.proofs.Lengths.{Within, Each, no_more, ◌and◌, number_within, reading_within, text_within}
use Rattle.cycle_text.specs.Types.{Event}
use Rattle.cycle_text.specs.Written.{event_fields, events_text, WrittenBytes}
use Rattle.cycle_text.proofs.RoundTrips.{formed}

-- the most bytes of each field
abbrev fields_most : List ℕ
fields_most = 10 ∷ 2 ∷ 11 ∷ 11 ∷ 11 ∷ 11 ∷ []

fields_within : (e : Event) → well_formed e ≡ true → Each fields_most (event_fields e)
unfolding event_fields
fields_within e h =
    let w = formed e h in
    number_within 9 e.time (omega (arith, w.time))
    and number_within 1 e.activity (omega (arith, w.high))
    and reading_within e.reading1 w.reading1
    and reading_within e.reading2 w.reading2
    and reading_within e.reading3 w.reading3
    and reading_within e.reading4 w.reading4
    and no_more

pub text_bytes : (es : List Event) → Cycle es → Within (62 * length es) (events_text es)
unfolding events_text
text_bytes es c = text_within event_fields fields_most well_formed fields_within es c.formed

pub written_bytes : WrittenBytes
written_bytes = record { bytes = λ es c. (text_bytes es c).bytes; most = λ es c. (text_bytes es c).most }
