-- Document 01's sentences as statements about rules and positions, beside the definitions that
-- compute. Proved as `words` in proofs/Words.
use Rattle.std.specs.Prelude.{◌≡◌, ◌↔◌, ◌⊎◌, Bool, true, false, List, [], ℕ, ◌+◌, ◌-◌, ◌≤◌, ◌<◌, length, get_or, None}
use Rattle.declare.specs.declared.Event.{Event}
use Rattle.declare.specs.declared.Rule.{Rule}
use Rattle.declare.specs.declared.Table.{Table}
use Rattle.declare.specs.declared.Standing.{Standing}
use Rattle.declare.specs.declared.Standing.TheVariants.{Idle, Open, Fulfilled, Violated}
use Rattle.declare.specs.Events.{well_formed, event_at}
use Rattle.declare.specs.Limits.{most_rules, most_events}
use Rattle.declare.specs.Overall.{is_overall}
use Rattle.declare.specs.Rules.{no_rule, rule_at, is_overall_rule, valid_table}
use Rattle.declare.specs.Slots.{event_slots}
use Rattle.declare.specs.Verdicts.{verdict}
use Rattle.declare.specs.Reachability.{standing}
use Rattle.declare.specs.Standings.{is_idle, is_open}
use Rattle.declare.specs.Answers.{after_call}
use Rattle.declare.specs.Steps.{Call, takes, notices}
use Rattle.standings.specs.declared.Cell.{Cell}
use Rattle.standings.specs.Places.{places, idle_cell}
use Rattle.standings.specs.Totals.{no_totals}
use Rattle.run.specs.declared.Run.{Run}
use Rattle.run.specs.Records.{events_of, horizon_of, standing_at, totals_in, stored_totals, valid_run, Sized}
use Rattle.run.specs.Start.{started}
use Rattle.run.specs.Calls.{entered, judged_run, call_of}
use Rattle.run.specs.Close.{closed_run, close_of, finished_run}

-- ---- the record, and 11

-- the events are those of the record's positions, and no more: "slots past a count are neither
-- checked nor read"
pub record Events (r : Run) (es : List Event) : Type 0 where
  pub size : length es ≡ r.count
  pub same : (i : ℕ) → 1 ≤ i → i ≤ r.count → event_at es i ≡ event_at r.events i

-- the standing s of position i under a rule is no cause of 11; position 0 is the cycle as such
pub record MayStand (over : Bool) (rule : Rule) (count i : ℕ) (s : Standing) : Type 0 where
  -- "a target above its event count"
  pub fulfilled : (j : ℕ) → s ≡ Fulfilled j → j ≤ count
  pub violated : (j : ℕ) → s ≡ Violated j → j ≤ count
  -- "open in a closed run"
  pub running : s ≡ Open → over ≡ false
  -- "a standing of one of its rules not idle past that count"
  pub idle : count < i → is_idle s ≡ true
  -- of a rule about the cycle, "a record idle at 0 or not idle at an event"
  pub judged : is_overall rule.code ≡ true → i ≡ 0 → is_idle s ≡ false
  pub at_events : is_overall rule.code ≡ true → 1 ≤ i → is_idle s ≡ true

-- "record or table outside the limits above, times falling in it, ..": nothing of this
pub record Valid (r : Run) : Type 0 where
  pub table : valid_table r.table ≡ true
  pub most : r.count ≤ most_events
  pub formed : (i : ℕ) → 1 ≤ i → i ≤ r.count → well_formed (event_at r.events i) ≡ true
  pub order : (i : ℕ) → 1 ≤ i → i < r.count → (event_at r.events i).time ≤ (event_at r.events (i + 1)).time
  pub standings : (k i : ℕ) → 1 ≤ k → k ≤ r.table.count → i ≤ most_events → MayStand r.closed (rule_at r.table k) r.count i (standing_at r k i)
  -- "a record whose stored totals differ from its standings"
  pub totals : (k : ℕ) → 1 ≤ k → k ≤ r.table.count → stored_totals r k ≡ totals_in r k

-- ---- start

-- a rule and a position that have a cell
abbrev pub Placed : ℕ → ℕ → Type 0
Placed k i = (1 ≤ k) × (k ≤ most_rules) × (i ≤ most_events)

-- position 0 of a rule that is not about the cycle is "in a record unread": its cell
abbrev pub unread : Run → ℕ → Cell
unread r k = get_or r.overall (k - 1) idle_cell

abbrev pub Unread : Run → ℕ → Type 0
Unread r k = (1 ≤ k) × (k ≤ most_rules) × (is_overall_rule r.table k ≡ false)

-- a slot past the rules
abbrev pub Unused : Run → ℕ → Type 0
Unused r k = (r.table.count < k) × (k ≤ most_rules)

-- "start copies the table and gives a run not closed, with no events, each event slot at time 0,
-- activity 1 and blank readings, each standing idle"; a rule about the cycle is "judged from start
-- on"
pub record Starts (t : Table) (r : Run) : Type 0 where
  pub phase : r.closed ≡ false
  pub table : r.table ≡ t
  pub count : r.count ≡ 0
  pub slots : length r.events ≡ most_events
  pub events : (i : ℕ) → 1 ≤ i → i ≤ most_events → event_at r.events i ≡ record { time = 0; activity = 1; reading1 = None; reading2 = None; reading3 = None; reading4 = None }
  pub cells : length r.cells ≡ places
  pub overall : length r.overall ≡ most_rules
  pub standings : (k i : ℕ) → Placed k i → 1 ≤ i → standing_at r k i ≡ Idle
  pub judged : (k : ℕ) → 1 ≤ k → k ≤ t.count → k ≤ most_rules → standing_at r k 0 ≡ standing (rule_at t k) [] 0 0
  pub others : (k : ℕ) → Unread r k → unread r k ≡ idle_cell
  pub totals : length r.totals ≡ most_rules
  pub unused : (k : ℕ) → Unused r k → stored_totals r k ≡ no_totals
  pub clock : r.clock ≡ 0

-- the table of no rules
pub record NoRules (t : Table) : Type 0 where
  pub count : t.count ≡ 0
  pub slots : length t.rules ≡ most_rules
  pub rules : (k : ℕ) → 1 ≤ k → k ≤ most_rules → rule_at t k ≡ no_rule

-- ---- take, notice and close

-- the event stands past the others, and nothing else changes
pub record Appends (r : Run) (e : Event) (next : Run) : Type 0 where
  pub phase : next.closed ≡ r.closed
  pub table : next.table ≡ r.table
  pub count : next.count ≡ r.count + 1
  pub slots : length next.events ≡ most_events
  pub event : event_at next.events (r.count + 1) ≡ e
  pub others : (i : ℕ) → 1 ≤ i → (i ≡ r.count + 1 → ⊥) → event_at next.events i ≡ event_at r.events i
  pub cells : next.cells ≡ r.cells
  pub overall : next.overall ≡ r.overall
  pub totals : next.totals ≡ r.totals
  pub clock : next.clock ≡ r.clock

-- the time is kept, and nothing else changes: "a notice is no event: it has no position"
pub record Keeps (r : Run) (time : ℕ) (next : Run) : Type 0 where
  pub phase : next.closed ≡ r.closed
  pub table : next.table ≡ r.table
  pub count : next.count ≡ r.count
  pub events : next.events ≡ r.events
  pub cells : next.cells ≡ r.cells
  pub overall : next.overall ≡ r.overall
  pub totals : next.totals ≡ r.totals
  pub clock : next.clock ≡ time

-- of one of the run's rules, and one of its events or position 0
abbrev pub InUse : Run → ℕ → ℕ → Type 0
InUse r k i = Placed k i × (k ≤ r.table.count) × (i ≤ r.count)

abbrev pub NotInUse : Run → ℕ → ℕ → Type 0
NotInUse r k i = Placed k i × ((r.table.count < k) ⊎ (r.count < i))

-- only standings and totals change, and only those in use
pub record KeepsRest (r next : Run) : Type 0 where
  pub table : next.table ≡ r.table
  pub count : next.count ≡ r.count
  pub events : next.events ≡ r.events
  pub cells : length next.cells ≡ places
  pub overall : length next.overall ≡ most_rules
  pub standings : (k i : ℕ) → NotInUse r k i → standing_at next k i ≡ standing_at r k i
  pub others : (k : ℕ) → Unread r k → unread next k ≡ unread r k
  pub totals : length next.totals ≡ most_rules
  pub unused : (k : ℕ) → Unused r k → stored_totals next k ≡ stored_totals r k
  pub clock : next.clock ≡ r.clock

-- what follows "from the events now in the record"
abbrev pub standing_now : Run → ℕ → ℕ → Standing
standing_now r k i = standing (rule_at r.table k) (events_of r) (horizon_of r) i

-- "decided standings (fulfilled or violated) at taken positions are carried over, all others follow
-- from the events now in the record"
pub record Judges (r next : Run) : Type 0 where
  pub phase : next.closed ≡ r.closed
  pub rest : KeepsRest r next
  pub fulfilled : (k i j : ℕ) → InUse r k i → standing_at r k i ≡ Fulfilled j → standing_at next k i ≡ Fulfilled j
  pub violated : (k i j : ℕ) → InUse r k i → standing_at r k i ≡ Violated j → standing_at next k i ≡ Violated j
  pub «open» : (k i : ℕ) → InUse r k i → standing_at r k i ≡ Open → standing_at next k i ≡ standing_now r k i
  pub idle : (k i : ℕ) → InUse r k i → standing_at r k i ≡ Idle → standing_at next k i ≡ standing_now r k i

abbrev pub code_at : Run → ℕ → ℕ
code_at r k = (rule_at r.table k).code

-- "close turns open into violated for 1 to 7, into fulfilled for 8 to 12, target 0; other standings
-- it keeps"; at position 0 "close decides an open one by its formula"
pub record Closes (r next : Run) : Type 0 where
  pub phase : next.closed ≡ true
  pub rest : KeepsRest r next
  pub violated : (k i : ℕ) → InUse r k i → standing_at r k i ≡ Open → 1 ≤ code_at r k → code_at r k ≤ 7 → standing_at next k i ≡ Violated 0
  pub fulfilled : (k i : ℕ) → InUse r k i → standing_at r k i ≡ Open → 8 ≤ code_at r k → code_at r k ≤ 12 → standing_at next k i ≡ Fulfilled 0
  pub overall : (k : ℕ) → InUse r k 0 → standing_at r k 0 ≡ Open → standing_at next k 0 ≡ verdict (rule_at r.table k) (events_of r) 0
  pub others : (k i : ℕ) → Placed k i → is_open (standing_at r k i) ≡ false → standing_at next k i ≡ standing_at r k i

-- the closed run of a whole cycle: the table, the events, and the verdict at each position under
-- each rule
pub record Finishes (t : Table) (es : List Event) (r : Run) : Type 0 where
  pub phase : r.closed ≡ true
  pub table : r.table ≡ t
  pub count : r.count ≡ length es
  pub events : r.events ≡ event_slots es
  pub cells : length r.cells ≡ places
  pub overall : length r.overall ≡ most_rules
  pub verdicts : (k i : ℕ) → InUse r k i → standing_at r k i ≡ verdict (rule_at t k) es i
  pub others : (k i : ℕ) → NotInUse r k i → standing_at r k i ≡ Idle
  pub unread_idle : (k : ℕ) → Unread r k → unread r k ≡ idle_cell
  pub totals : length r.totals ≡ most_rules
  pub unused : (k : ℕ) → Unused r k → stored_totals r k ≡ no_totals
  pub clock : r.clock ≡ 0

-- ---- of every run with the slots that the code gives it

pub record Words : Type 0 where
  -- what a call leaves is no cause of 11
  pub started_valid : (t : Table) → valid_run (started t) ≡ true
  pub call_valid : (r : Run) → Sized r → valid_run r ≡ true → (call : Call) → valid_run (after_call r (call_of r call)) ≡ true
  pub close_valid : (r : Run) → Sized r → valid_run r ≡ true → valid_run (after_call r (close_of r)) ≡ true
  pub events : (r : Run) → Sized r → r.count ≤ most_events → Events r (events_of r)
  pub valid : (r : Run) → Sized r → (valid_run r ≡ true) ↔ Valid r
  pub starts : (t : Table) → valid_table t ≡ true → Starts t (started t)
  pub refuses : (t : Table) → valid_table t ≡ false → (none : Table) × NoRules none × Starts none (started t)
  pub appends : (r : Run) (e : Event) → Sized r → r.count < most_events → Appends r e (entered r (takes e))
  pub keeps : (r : Run) (time : ℕ) → Keeps r time (entered r (notices time))
  pub judges : (r : Run) → Sized r → Judges r (judged_run r)
  pub closes : (r : Run) → Sized r → Closes r (closed_run r)
  pub finishes : (t : Table) (es : List Event) → Finishes t es (finished_run t (length es) (event_slots es))
