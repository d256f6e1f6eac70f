-- A run's record, and what makes it valid: the causes of 11.
use Rattle.std.specs.Prelude.{◌≡◌, Bool, true, not, cond, ◌&&◌, ◌||◌, List, ℕ, ◌+◌, ◌-◌, min, leb, ltb, eqb, length, get_or, take}
use Rattle.declare.specs.declared.Event.{Event}
use Rattle.declare.specs.declared.Rule.{Rule}
use Rattle.declare.specs.declared.Standing.{Standing}
use Rattle.declare.specs.declared.Standing.TheVariants.{Idle, Open, Fulfilled, Violated}
use Rattle.declare.specs.Lists.{all, all_below, map_from}
use Rattle.declare.specs.Limits.{most_rules, most_events}
use Rattle.declare.specs.Events.{well_formed, non_falling}
use Rattle.declare.specs.Overall.{is_overall}
use Rattle.declare.specs.Rules.{rule_at, is_overall_rule, valid_table}
use Rattle.declare.specs.declared.Table.{Table}
use Rattle.declare.specs.Standings.{is_idle}
use Rattle.declare.specs.Continuations.{Course, horizon}
use Rattle.standings.specs.declared.Cell.{Cell}
use Rattle.standings.specs.declared.totals.Totals.{Totals}
use Rattle.standings.specs.Places.{places, standing_in, overall_in, zero_in, with_zero}
use Rattle.standings.specs.Totals.{totals_by, no_totals}
use Rattle.run.specs.declared.Run.{Run}

-- ---- what a record says

-- the events of a run; "slots past a count are neither checked nor read"
unfoldable pub events_of : Run → List Event
events_of r = take r.count r.events

-- with the kept time
abbrev pub course_of : Run → Course
course_of r = record { events = events_of r; clock = r.clock }

-- the earliest time that a further event may have
abbrev pub horizon_of : Run → ℕ
horizon_of r = horizon (course_of r)

-- the standing of a rule's position; position 0 is the cycle as such
abbrev pub standing_at : Run → ℕ → ℕ → Standing
standing_at r rule position =
    with_zero (zero_in r.table r.overall rule) (standing_in r.cells rule) position

-- of position 0 and those of its events
abbrev pub totals_in : Run → ℕ → Totals
totals_in r rule = totals_by (standing_at r rule) r.count

-- "the run is to store all four per rule"
abbrev pub stored_totals : Run → ℕ → Totals
stored_totals r rule = get_or r.totals (rule - 1) no_totals

-- ---- a record with other events, another kept time, other standings, closed, or counted

abbrev pub with_events : Run → ℕ → List Event → Run
with_events r count events =
    record { closed = r.closed; table = r.table; count = count; events = events; cells = r.cells; overall = r.overall; totals = r.totals; clock = r.clock }

abbrev pub with_clock : Run → ℕ → Run
with_clock r clock =
    record { closed = r.closed; table = r.table; count = r.count; events = r.events; cells = r.cells; overall = r.overall; totals = r.totals; clock = clock }

abbrev pub with_standings : Run → List Cell → List Cell → Run
with_standings r cells overall =
    record { closed = r.closed; table = r.table; count = r.count; events = r.events; cells = cells; overall = overall; totals = r.totals; clock = r.clock }

abbrev pub as_closed : Run → Run
as_closed r =
    record { closed = true; table = r.table; count = r.count; events = r.events; cells = r.cells; overall = r.overall; totals = r.totals; clock = r.clock }

abbrev pub with_totals : Run → List Totals → Run
with_totals r totals =
    record { closed = r.closed; table = r.table; count = r.count; events = r.events; cells = r.cells; overall = r.overall; totals = totals; clock = r.clock }

-- the totals of its rules, which have cells for 256 events; slots past the rules stay as they are
unfoldable pub counted_totals : Run → List Totals
counted_totals r =
    map_from (λ k t. cond (ltb k r.table.count) (totals_by (standing_at r (k + 1)) (min r.count most_events)) t) 0 r.totals

abbrev pub counted : Run → Run
counted r = with_totals r (counted_totals r)

-- ---- valid

-- "record .. outside the limits above, times falling in it": the event count, and the events
unfoldable pub valid_events : ℕ → List Event → Bool
valid_events count events =
    leb count most_events && all well_formed (take count events) && non_falling (take count events)

-- not "a target above its event count", nor "open in a closed run"
abbrev pub valid_standing : Bool → ℕ → Standing → Bool
valid_standing closed count Idle = true
valid_standing closed count Open = not closed
valid_standing closed count (Fulfilled j) = leb j count
valid_standing closed count (Violated j) = leb j count

-- nor "a standing of one of its rules not idle past that count": the standing s of position i
unfoldable pub valid_at : Bool → ℕ → ℕ → Standing → Bool
valid_at closed count i s = cond (leb i count) (valid_standing closed count s) (is_idle s)

-- all positions that a rule has cells for
unfoldable pub valid_row : Bool → ℕ → List Cell → ℕ → Bool
valid_row closed count cells rule =
    all_below (λ p. valid_at closed count (p + 1) (standing_in cells rule (p + 1))) most_events

-- of n events those that are judged under a rule: one about the cycle "is idle at events"
unfoldable pub events_judged : Rule → ℕ → ℕ
events_judged r n = cond (is_overall r.code) 0 n

-- the rows of the rules; other rows are not read
unfoldable pub valid_standings : Bool → Table → ℕ → List Cell → Bool
valid_standings closed t count cells =
    all_below (λ k. valid_row closed (events_judged (rule_at t (k + 1)) count) cells (k + 1)) t.count

-- of a rule about the cycle: "a record idle at 0 .. is 11"
abbrev pub valid_zero : Bool → ℕ → Standing → Bool
valid_zero closed count s = not (is_idle s) && valid_standing closed count s

-- "position 0 of other rules is .. in a record unread"
unfoldable pub valid_overall : Bool → Table → ℕ → List Cell → Bool
valid_overall closed t count overall =
    all_below (λ k. not (is_overall_rule t (k + 1)) || valid_zero closed count (overall_in overall (k + 1))) t.count

abbrev pub same_totals : Totals → Totals → Bool
same_totals a b =
    eqb a.activations b.activations
    && eqb a.fulfilled b.fulfilled
    && eqb a.violated b.violated
    && eqb a.«open» b.«open»

-- "a record whose stored totals differ from its standings is refused as 11"; totals past the rules
-- are not read
unfoldable pub valid_totals : Run → Bool
valid_totals r =
    all_below (λ k. same_totals (stored_totals r (k + 1)) (totals_in r (k + 1))) r.table.count

-- nothing in the record is a cause of 11
unfoldable pub valid_run : Run → Bool
valid_run r =
    valid_table r.table
    && valid_events r.count r.events
    && valid_standings r.closed r.table r.count r.cells
    && valid_overall r.closed r.table r.count r.overall
    && valid_totals r

-- the lengths that the types of the code give its arrays
pub record Sized (r : Run) : Type 0 where
  pub rules : length r.table.rules ≡ most_rules
  pub events : length r.events ≡ most_events
  pub cells : length r.cells ≡ places
  pub overall : length r.overall ≡ most_rules
  pub totals : length r.totals ≡ most_rules
