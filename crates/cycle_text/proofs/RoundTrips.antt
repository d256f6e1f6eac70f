-- What an accepted text gives, and that writing and reading undo each other: first for one line,
-- then for a text by the laws of texts.
use mathlib.Core.Path.{◌≡◌, refl, ◌∙◌, ap}
use mathlib.Core.Bool.{true}
use mathlib.Core.List.{List, [], ◌∷◌, ◌++◌}
use Prim.Native.Nat.{ℕ, ◌+◌, ◌≤◌, ◌<◌}
use native.Mathlib.Omega.{arith}
use borrow.Author.Tests.{leb-true, le-leb, lt-ltb, eqb-true}
use lib.Dec.{leb}
use lib.ListN.{length, get_or, length-append}
use Rattle.declare.specs.Lists.{all}
use Rattle.declare.specs.Events.{latest, in_range, is_activity, readings_in_range, well_formed, non_falling_from, non_falling, last_from, last_time}
use Rattle.declare.specs.Steps.{Cycle}
use Rattle.declare.specs.Limits.{last_activity, most_events}
use Rattle.declare.proofs.Booleans.{and₂, and₃, all_append}
use Rattle.declare.proofs.Extension.{non_falling_parts}
use Rattle.line.specs.Fields.{LF, tab}
use Rattle.declare.specs.Answers.{accepted, ◌>>=◌, ◌>>◌, require}
use Rattle.line.specs.Values.{number_field, reading_field}
use Rattle.declare.proofs.Answers.{of_of, through, required}
use Rattle.line.proofs.Values.{number_written, number_read, reading_written, reading_read_lem, lacks_number, lacks_reading}
use Rattle.line.proofs.Lines.{all_numbered}
use Rattle.line.proofs.Joined.{lacks}
use Rattle.line.specs.Texts.{Stop}
use Rattle.line.proofs.Texts.{Parted, Follow, text_written, text_back, accepted_records, refused_line_lem}
use Rattle.cycle_text.specs.Types.{Event}
use Rattle.cycle_text.specs.Cycle.{event_field_count, event_of, in_order, event_after, cycle_text_of}
use Rattle.cycle_text.specs.Written.{event_fields, events_text, RoundTrips}
use Rattle.cycle_text.specs.Reads.{below}
use Rattle.cycle_text.proofs.Turns.{last_taken, passed_lem}

-- ---- a line that was read

-- what its six fields gave
pub record EventRead (fields : List (List ℕ)) (e : Event) : Type 0 where
  pub six : length fields ≡ event_field_count
  pub time : number_field 0 latest (get_or fields 0 []) ≡ accepted e.time
  pub activity : number_field 1 last_activity (get_or fields 1 []) ≡ accepted e.activity
  pub reading1 : reading_field (get_or fields 2 []) ≡ accepted e.reading1
  pub reading2 : reading_field (get_or fields 3 []) ≡ accepted e.reading2
  pub reading3 : reading_field (get_or fields 4 []) ≡ accepted e.reading3
  pub reading4 : reading_field (get_or fields 5 []) ≡ accepted e.reading4

pub event_read_lem : (fields : List (List ℕ)) (e : Event) → event_of fields ≡ accepted e → EventRead fields e
unfolding event_of
event_read_lem fields e h =
    let s = required _ 1 _ e h in
    let t = through _ _ e s.1 in
    let a = through _ _ e t.rest in
    let p = through _ _ e a.rest in
    let q = through _ _ e p.rest in
    let r = through _ _ e q.rest in
    let u = through _ _ e r.rest in
    let k = of_of u.rest in
    record {
      six = eqb-true (length fields) event_field_count s.0;
      time = t.first ∙ ap (λ (x : Event). accepted x.time) k;
      activity = a.first ∙ ap (λ (x : Event). accepted x.activity) k;
      reading1 = p.first ∙ ap (λ (x : Event). accepted x.reading1) k;
      reading2 = q.first ∙ ap (λ (x : Event). accepted x.reading2) k;
      reading3 = r.first ∙ ap (λ (x : Event). accepted x.reading3) k;
      reading4 = u.first ∙ ap (λ (x : Event). accepted x.reading4) k;
    }

-- its event is well-formed
read_formed : (fields : List (List ℕ)) (e : Event) → EventRead fields e → well_formed e ≡ true
unfolding well_formed is_activity readings_in_range all
read_formed fields e h =
    let t = number_read 0 latest _ _ h.time in
    let a = number_read 1 last_activity _ _ h.activity in
    rw (le-leb e.time latest t.high, le-leb 1 e.activity a.low, le-leb e.activity last_activity a.high, (reading_read_lem _ _ h.reading1).range, (reading_read_lem _ _ h.reading2).range, (reading_read_lem _ _ h.reading3).range, (reading_read_lem _ _ h.reading4).range)

-- and is written as the same fields
read_fields : (fields : List (List ℕ)) (e : Event) → EventRead fields e → event_fields e ≡ fields
unfolding event_fields
read_fields fields e h =
    rw ((number_read 0 latest _ _ h.time).text, (number_read 1 last_activity _ _ h.activity).text, (reading_read_lem _ _ h.reading1).text, (reading_read_lem _ _ h.reading2).text, (reading_read_lem _ _ h.reading3).text, (reading_read_lem _ _ h.reading4).text)
    (all_numbered event_field_count fields h.six)

-- what was checked of a line below others
record After (above : List Event) (fields : List (List ℕ)) (e : Event) : Type 0 where
  line : EventRead fields e
  order : last_time above ≤ e.time
  room : length above < most_events

event_after_lem : (above : List Event) (fields : List (List ℕ)) (e : Event) → event_after above fields ≡ accepted e → After above fields e
unfolding event_after below
event_after_lem above fields e h =
    let p = passed_lem above (event_of fields) e h in
    record { line = event_read_lem fields e p.line; order = p.order; room = p.room }

-- ---- an accepted text

cycle_more : (above : List Event) (fields : List (List ℕ)) (e : Event) → Cycle above → event_after above fields ≡ accepted e → Cycle (above ++ (e ∷ []))
unfolding non_falling all last_time non_falling_from
cycle_more above fields e s h =
    let a = event_after_lem above fields e h in
    record {
      most = rw (length-append above (e ∷ [])) (omega (arith, a.room));
      formed = all_append well_formed above (e ∷ []) s.formed (rw (read_formed fields e a.line));
      order = non_falling_parts 0 above (e ∷ []) ∙ rw (s.order, le-leb (last_time above) e.time a.order);
    }

-- ---- a refused text

-- no line below the 257th is looked at
pub refused_at : (text : List ℕ) (n line : ℕ) → cycle_text_of text ≡ Stop n line → line ≤ most_events + 1
unfolding cycle_text_of
refused_at text n line e = refused_line_lem event_after most_events (λ above fields r h. (event_after_lem above fields r h).room) text n line e

-- ---- a line that is written

pub record Formed (e : Event) : Type 0 where
  pub time : e.time ≤ latest
  pub low : 1 ≤ e.activity
  pub high : e.activity ≤ last_activity
  pub reading1 : in_range e.reading1 ≡ true
  pub reading2 : in_range e.reading2 ≡ true
  pub reading3 : in_range e.reading3 ≡ true
  pub reading4 : in_range e.reading4 ≡ true

pub formed : (e : Event) → well_formed e ≡ true → Formed e
unfolding well_formed is_activity readings_in_range all
formed e h =
    let p : (leb e.time latest ≡ true) × (is_activity e.activity ≡ true) × (readings_in_range e ≡ true) = and₃ h in
    let a : (leb 1 e.activity ≡ true) × (leb e.activity last_activity ≡ true) = and₂ p.1 in
    let q : (in_range e.reading1 ≡ true) × (all in_range (e.reading2 ∷ e.reading3 ∷ e.reading4 ∷ []) ≡ true) = and₂ p.2 in
    let r : (in_range e.reading2 ≡ true) × (all in_range (e.reading3 ∷ e.reading4 ∷ []) ≡ true) = and₂ q.1 in
    let u : (in_range e.reading3 ≡ true) × (all in_range (e.reading4 ∷ []) ≡ true) = and₂ r.1 in
    let v : (in_range e.reading4 ≡ true) × (true ≡ true) = and₂ u.1 in
    record {
      time = leb-true e.time latest p.0;
      low = leb-true 1 e.activity a.0;
      high = leb-true e.activity last_activity a.1;
      reading1 = q.0;
      reading2 = r.0;
      reading3 = u.0;
      reading4 = v.0;
    }

event_written : (e : Event) → well_formed e ≡ true → event_of (event_fields e) ≡ accepted e
unfolding event_of event_fields require ◌>>◌ ◌>>=◌
event_written e h =
    let w = formed e h in
    rw (number_written 0 latest e.time (omega arith) w.time, number_written 1 last_activity e.activity w.low w.high, reading_written e.reading1 w.reading1, reading_written e.reading2 w.reading2, reading_written e.reading3 w.reading3, reading_written e.reading4 w.reading4)

after_written : (above : List Event) (e : Event) → well_formed e ≡ true → last_time above ≤ e.time → length above < most_events → event_after above (event_fields e) ≡ accepted e
unfolding event_after in_order require ◌>>◌ ◌>>=◌
after_written above e h l m =
    rw (event_written e h, le-leb (last_time above) e.time l, lt-ltb (length above) most_events m)

-- neither tab nor LF stands in a field
lacks_fields : (b : ℕ) (e : Event) → b < 45 → all (lacks b) (event_fields e) ≡ true
unfolding event_fields all
lacks_fields b e h =
    rw (lacks_number b e.time h, lacks_number b e.activity h, lacks_reading b e.reading1 h, lacks_reading b e.reading2 h, lacks_reading b e.reading3 h, lacks_reading b e.reading4 h)

parted : (e : Event) → Parted event_fields e
unfolding event_fields
parted e = record { some = omega arith; tabs = lacks_fields tab e (omega arith); ends = lacks_fields LF e (omega arith) }

-- ---- a written text

follow : (above es : List Event) → all well_formed es ≡ true → non_falling_from (last_time above) es ≡ true → length above + length es ≤ most_events → Follow event_after event_fields above es
unfolding Follow all non_falling_from
follow above [] f o m = tt
follow above (e ∷ es) f o m =
    let p : (well_formed e ≡ true) × (all well_formed es ≡ true) = and₂ f in
    let q : (leb (last_time above) e.time ≡ true) × (non_falling_from e.time es ≡ true) = and₂ o in (
      parted e,
      after_written above e p.0 (leb-true (last_time above) e.time q.0) (omega arith),
      follow (above ++ (e ∷ [])) es p.1 (rw (last_taken above e) q.1) (rw (length-append above (e ∷ [])) (omega arith)),
    )

pub round_trips : RoundTrips
unfolding cycle_text_of events_text non_falling non_falling_from all last_from last_time
round_trips =
    record {
      valid = λ text es. accepted_records event_after Cycle (record { most = omega arith; formed = refl; order = refl }) cycle_more text es;
      read = λ es s. text_written event_after event_fields es (follow [] es s.formed s.order (omega (arith, s.most)));
      again = λ text es. text_back event_after event_fields (λ above fields e h. read_fields fields e (event_after_lem above fields e h).line) text es;
    }
