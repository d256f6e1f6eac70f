-- Whole cycle texts, by computation over the definitions: what is accepted, each refusal with its
-- line, and the order of the checks.
use Rattle.std.specs.Prelude.{None, Some}
use mathlib.Core.Path.{◌≡◌, refl}
use mathlib.Core.List.{List, [], ◌∷◌, ◌++◌}
use Prim.Native.Nat.{ℕ}
use Prim.Native.String.{String}
use lib.IntN.{pos, negsuc}
use lib.ListN.{length, replicate}
use Rattle.declare.specs.Events.{last_from, last_time, empty_slot}
use Rattle.number.specs.Number.{digit, digits, none, zero_alone, positive, negative, natural_form, integer_form, dash, value_from, value_of, integer_value, in_natural_range, natural_of, in_signed_range, integer_of}
use Rattle.number.specs.Written.{digits_in, digits_of, integer_text}
use Rattle.number.proofs.Quoted.{bytes, repeated, Case, ◌gives◌, Checked}
use Rattle.line.specs.Fields.{onto, split, each_after, joined}
use Rattle.declare.specs.Answers.{◌>>=◌, ◌>>◌, require}
use Rattle.line.specs.Values.{number_field, reading_field, reading_text}
use Rattle.line.specs.Texts.{Records, All, Stop, line_after, continued, lines_of, text_of, written_line, written_text}
use Rattle.cycle_text.specs.Types.{Reading, Event}
use Rattle.cycle_text.specs.Cycle.{event_of, in_order, event_after, cycle_text_of}
use Rattle.declare.specs.Slots.{padded, event_slots}
use Rattle.cycle_text.specs.Written.{event_fields, events_text}

abbrev event : ℕ → ℕ → Reading → Event
event t a r = record { time = t; activity = a; reading1 = r; reading2 = None; reading3 = None; reading4 = None }

-- document 01's listing
abbrev listing : List Event
listing =
    event 0 1 (Some (pos 7))
    ∷ event 400 2 (Some (pos 7))
    ∷ event 400 3 (Some (pos 7))
    ∷ event 900 3 (Some (pos 7))
    ∷ event 1000 1 (Some (pos 7))
    ∷ event 1500 2 (Some (pos 7))
    ∷ []

abbrev listing_text : List ℕ
listing_text =
    bytes "0\t1\t7\t-\t-\t-\n400\t2\t7\t-\t-\t-\n400\t3\t7\t-\t-\t-\n900\t3\t7\t-\t-\t-\n1000\t1\t7\t-\t-\t-\n1500\t2\t7\t-\t-\t-\n"

-- no line that is accepted has more bytes
abbrev longest_text : String
longest_text = "4294967295\t64\t-2147483648\t-2147483648\t-2147483648\t-2147483648\n"

abbrev longest : Event
longest =
    let lowest : Reading = Some (negsuc 2147483647) in
    record { time = 4294967295; activity = 64; reading1 = lowest; reading2 = lowest; reading3 = lowest; reading4 = lowest }

abbrev accepted_texts : List (Case (Records Event))
accepted_texts =
    "" gives All []
    -- times may repeat
    ∷ "5\t1\t-\t-\t-\t-\n5\t1\t-\t-\t-\t-\n" gives All (event 5 1 None ∷ event 5 1 None ∷ [])
    ∷ "0\t1\t0\t-\t-\t-\n" gives All (event 0 1 (Some (pos 0)) ∷ [])
    ∷ "4294967295\t64\t2147483647\t-\t-\t-\n" gives All (event 4294967295 64 (Some (pos 2147483647)) ∷ [])
    ∷ "0\t1\t-2147483648\t-\t-\t-\n" gives All (event 0 1 (Some (negsuc 2147483647)) ∷ [])
    ∷ longest_text gives All (longest ∷ [])
    ∷ []

-- each cause, with its line
abbrev refused_texts : List (Case (Records Event))
refused_texts =
    -- an empty line is one empty field; a tab at the end of a line leaves an empty field behind it
    "\n" gives Stop 1 1
    ∷ "0\t1\t-\t-\t-\n" gives Stop 1 1
    ∷ "0\t1\t-\t-\t-\t-\t\n" gives Stop 1 1
    ∷ "0\t1\t-\t-\t-\t-\n\n" gives Stop 1 2
    -- CR is a byte of the last field
    ∷ "0\t1\t-\t-\t-\t-\r\n" gives Stop 2 1
    -- a sign, a zero before digits, no digits; `-` where no reading stands
    ∷ "-5\t1\t-\t-\t-\t-\n" gives Stop 2 1
    ∷ "01\t1\t-\t-\t-\t-\n" gives Stop 2 1
    ∷ "+1\t1\t-\t-\t-\t-\n" gives Stop 2 1
    ∷ "\t1\t-\t-\t-\t-\n" gives Stop 2 1
    ∷ "-\t1\t-\t-\t-\t-\n" gives Stop 2 1
    ∷ "0\t-\t-\t-\t-\t-\n" gives Stop 2 1
    ∷ "0\t-5\t-\t-\t-\t-\n" gives Stop 2 1
    ∷ "0\t1\t-0\t-\t-\t-\n" gives Stop 2 1
    ∷ "0\t1\t\t-\t-\t-\n" gives Stop 2 1
    ∷ "0\t1\t-\t-\t-\t-\n1\t1\t--1\t-\t-\t-\n" gives Stop 2 2
    -- numbers of any length
    ∷ "4294967296\t1\t-\t-\t-\t-\n" gives Stop 3 1
    ∷ "0\t0\t-\t-\t-\t-\n" gives Stop 3 1
    ∷ "0\t65\t-\t-\t-\t-\n" gives Stop 3 1
    ∷ "0\t1\t2147483648\t-\t-\t-\n" gives Stop 3 1
    ∷ "0\t1\t-2147483649\t-\t-\t-\n" gives Stop 3 1
    ∷ "999999999999999999999999999999999999999999999999999999999999\t1\t-\t-\t-\t-\n" gives Stop 3 1
    ∷ "0\t1\t-\t-\t-\t-\n1\t1\t-999999999999999999999999999999999999999999999999999999999999\t-\t-\t-\n" gives Stop 3 2
    -- the time of the line above counts
    ∷ "5\t1\t-\t-\t-\t-\n4\t1\t-\t-\t-\t-\n" gives Stop 7 2
    ∷ "0\t1\t-\t-\t-\t-\n9\t1\t-\t-\t-\t-\n8\t1\t-\t-\t-\t-\n" gives Stop 7 3
    ∷ "0\t1\t-\t-\t-\t-" gives Stop 12 1
    ∷ "0\t1\t-\t-\t-\t-\n1\t1\t-\t-\t-\t-" gives Stop 12 2
    ∷ "0" gives Stop 12 1
    ∷ []

-- two faults in one text
abbrev ordered : List (Case (Records Event))
ordered =
    -- 12 before 1 and 2
    "0\t1" gives Stop 12 1
    ∷ "x\t1\t-\t-\t-\t-" gives Stop 12 1
    -- 1 before 2
    ∷ "x\t1\n" gives Stop 1 1
    -- field by field, so that 3 of a field comes before 2 of the next
    ∷ "0\t65\tx\t-\t-\t-\n" gives Stop 3 1
    ∷ "4294967296\tx\t-\t-\t-\t-\n" gives Stop 3 1
    ∷ "x\t65\t-\t-\t-\t-\n" gives Stop 2 1
    ∷ "0\tx\t2147483648\t-\t-\t-\n" gives Stop 2 1
    -- 12 and all fields before 7
    ∷ "5\t1\t-\t-\t-\t-\n4\t1\tx\t-\t-\t-\n" gives Stop 2 2
    ∷ "5\t1\t-\t-\t-\t-\n4\t65\t-\t-\t-\t-\n" gives Stop 3 2
    ∷ "5\t1\t-\t-\t-\t-\n4\t1\t-\t-\t-\t-" gives Stop 12 2
    ∷ "999999999999999999999999999999999999999999999999999999999999\n" gives Stop 1 1
    ∷ "999999999999999999999999999999999999999999999999999999999999" gives Stop 12 1
    -- the first line that is refused_texts
    ∷ "x\n0" gives Stop 1 1
    ∷ "0\tx\t-\t-\t-\t-\n\n" gives Stop 2 1
    ∷ "5\t1\t-\t-\t-\t-\n4\t1\t-\t-\t-\t-\nx\n" gives Stop 7 2
    ∷ []

-- after 256 lines: 8 comes last in its line
abbrev full : List (Case (Records Event))
full =
    "5\t1\t-\t-\t-\t-\n" gives Stop 8 257
    ∷ "4\t1\t-\t-\t-\t-\n" gives Stop 7 257
    ∷ "5\t1\tx\t-\t-\t-\n" gives Stop 2 257
    ∷ "5\t1" gives Stop 12 257
    ∷ "5\t1\t-\t-\t-\t-\nx\n" gives Stop 8 257
    ∷ "" gives All (replicate 256 (event 5 1 None))
    ∷ []

pub record Vectors : Type 0 where
  -- 256 slots, each that is not filled at time 0, activity 1 and blank readings
  pub of_slots : event_slots (event 5 2 None ∷ []) ≡ event 5 2 None ∷ replicate 255 (event 0 1 None)
  pub of_longest : length (bytes longest_text) ≡ 62
  pub listing_read : cycle_text_of listing_text ≡ All listing
  pub listing_written : events_text listing ≡ listing_text
  pub of_accepted : Checked cycle_text_of accepted_texts
  pub of_refused : Checked cycle_text_of refused_texts
  pub of_ordered : Checked cycle_text_of ordered
  pub of_full : Checked (λ s. cycle_text_of (repeated 256 "5\t1\t-\t-\t-\t-\n" ++ s)) full

pub vectors : Vectors
unfolding last_from last_time digit digits none zero_alone positive negative natural_form integer_form dash value_from value_of integer_value in_natural_range natural_of in_signed_range integer_of digits_in digits_of integer_text onto split each_after joined ◌>>=◌ ◌>>◌ require number_field reading_field reading_text line_after continued lines_of text_of written_line written_text event_of in_order event_after cycle_text_of padded empty_slot event_fields events_text
vectors =
    record {
      of_slots = refl;
      of_longest = refl;
      listing_read = refl;
      listing_written = refl;
      of_accepted = refl;
      of_refused = refl;
      of_ordered = refl;
      of_full = refl;
    }
