-- A list of takes and notices from start: the one claim over all of it. Proved as `every_calls` in
-- proofs/Grown.
use Rattle.std.specs.Prelude.{◌≡◌, Bool, true, false, List, [], ◌∷◌, ℕ, suc, ◌+◌, ◌-◌, ◌≤◌, ◌<◌, length, get_or}
use Rattle.declare.specs.declared.Event.{Event}
use Rattle.declare.specs.declared.Rule.{Rule}
use Rattle.declare.specs.declared.Table.{Table}
use Rattle.declare.specs.declared.Standing.{Standing}
use Rattle.declare.specs.Lists.{count_below}
use Rattle.declare.specs.Limits.{most_rules}
use Rattle.declare.specs.Overall.{is_overall}
use Rattle.declare.specs.Rules.{rule_at, is_overall_rule, valid_table}
use Rattle.declare.specs.Slots.{event_slots}
use Rattle.declare.specs.Suits.{activation_at}
use Rattle.declare.specs.Verdicts.{verdict}
use Rattle.declare.specs.Continuations.{Course, horizon}
use Rattle.declare.specs.Reachability.{standing}
use Rattle.declare.specs.Standings.{is_open}
use Rattle.declare.specs.Answers.{Answer, accepted, ◌>>◌, is_accepted, after_call}
use Rattle.declare.specs.Steps.{Call, admits, is_admitted, course, taken}
use Rattle.standings.specs.declared.totals.Totals.{Totals}
use Rattle.standings.specs.Places.{places, idle_cell, in_use}
use Rattle.standings.specs.Totals.{totals_by, no_totals}
use Rattle.run.specs.declared.Run.{Run}
use Rattle.run.specs.Records.{with_clock, standing_at, stored_totals, valid_run}
use Rattle.run.specs.Start.{started}
use Rattle.run.specs.Calls.{entered, judged_run, call_of}
use Rattle.run.specs.Close.{closed_run, close_of, running_run, finished_run}
use Rattle.run.specs.Queries.{is_position, standing_of, totals_of}

-- "each later one the run that the" call "before it gave back, after a refusal the same run"
unfoldable pub after_calls : Run → List Call → Run
after_calls r [] = r
after_calls r (call ∷ calls) = after_calls (after_call r (call_of r call)) calls

-- "the first" call "gets the run that start gives for the table"
unfoldable pub grown : Table → List Call → Run
grown t calls = after_calls (started t) calls

-- ---- a run by its rules, its events and its kept time

-- r has the table t, the events and the kept time of c, rule k stands at position i as `stands`
-- says, position 0 included, and every other cell is idle; it is valid, so that its stored totals
-- are the counts
pub record RunOf (t : Table) (c : Course) (over : Bool) (stands : ℕ → ℕ → Standing) (r : Run) : Type 0 where
  pub valid : valid_run r ≡ true
  pub phase : r.closed ≡ over
  pub table : r.table ≡ t
  pub count : r.count ≡ length c.events
  -- past the events the slots are as start gave them
  pub events : r.events ≡ event_slots c.events
  pub cells : length r.cells ≡ places
  pub overall : length r.overall ≡ most_rules
  pub totals : length r.totals ≡ most_rules
  pub clock : r.clock ≡ c.clock
  pub standings : (k i : ℕ) → 1 ≤ k → k ≤ t.count → i ≤ length c.events → standing_at r k i ≡ stands k i
  pub idle : (j : ℕ) → j < places → in_use t.count (length c.events) j ≡ false → get_or r.cells j idle_cell ≡ idle_cell
  pub others : (k : ℕ) → 1 ≤ k → k ≤ most_rules → is_overall_rule t k ≡ false → get_or r.overall (k - 1) idle_cell ≡ idle_cell
  pub unused : (k : ℕ) → t.count < k → k ≤ most_rules → stored_totals r k ≡ no_totals

-- "activations = fulfilled + violated + open, and activations is the number of taken events that
-- fit its activation"; under a rule about the cycle "position 0, in place of events, is its one
-- activation: its total activations is 1"
pub record Fits (rule : Rule) (es : List Event) (t : Totals) : Type 0 where
  pub sum : t.activations ≡ t.fulfilled + t.violated + t.«open»
  pub activations : t.activations ≡ count_below (activation_at rule es) (suc (length es))
  pub one : is_overall rule.code ≡ true → t.activations ≡ 1

-- what standing and totals answer for the rules and positions of such a run: never a refusal
pub record Answers (t : Table) (es : List Event) (stands : ℕ → ℕ → Standing) (r : Run) : Type 0 where
  pub standing : (k i : ℕ) → 1 ≤ k → k ≤ t.count → is_position t (length es) k i ≡ true → standing_of r k i ≡ accepted (stands k i)
  pub totals : (k : ℕ) → 1 ≤ k → k ≤ t.count → totals_of r k ≡ accepted (totals_by (stands k) (length es))
  pub fit : (k : ℕ) → Fits (rule_at t k) es (totals_by (stands k) (length es))

-- ---- the claim

-- how rule k of the table stands at position i
abbrev pub running : Table → Course → ℕ → ℕ → Standing
running t c k i = standing (rule_at t k) c.events (horizon c) i

-- once the cycle is over the events alone say it
abbrev pub finished : Table → List Event → ℕ → ℕ → Standing
finished t es k i = verdict (rule_at t k) es i

-- what a call answers after the course c, "from the calls alone"
unfoldable pub call_after : Course → Run → Call → Answer Run
call_after c r call = do
  admits (length c.events) (horizon c) call
  accepted (judged_run (entered r call))

-- the run after these calls, refused ones included, and every call on it
pub record Grown (t : Table) (calls : List Call) : Type 0 where
  pub run : RunOf t (course calls) false (running t (course calls)) (grown t calls)
  pub answer : (call : Call) → call_of (grown t calls) call ≡ call_after (course calls) (grown t calls) call
  pub accepts : (call : Call) → is_accepted (call_of (grown t calls) call) ≡ is_admitted (course calls) call
  pub answers : Answers t (taken calls) (running t (course calls)) (grown t calls)
  pub close : close_of (grown t calls) ≡ accepted (closed_run (grown t calls))
  -- "the standings that closing leaves depend on rules and events only, and close passes the kept
  -- time on unchanged"
  pub closed_run_lem : RunOf t (course calls) true (finished t (taken calls)) (closed_run (grown t calls))
  pub closed_answers : Answers t (taken calls) (finished t (taken calls)) (closed_run (grown t calls))
  -- all of the run follows from the rules, the taken events and the kept time, each standing judged
  -- once; all of the closed one but for the kept time from rules and events
  pub judged_once : grown t calls ≡ running_run t (length (taken calls)) (event_slots (taken calls)) (course calls).clock
  pub closed_once : closed_run (grown t calls) ≡ with_clock (finished_run t (length (taken calls)) (event_slots (taken calls))) (course calls).clock
  -- "decided ones kept"
  pub kept : (k i : ℕ) → is_open (running t (course calls) k i) ≡ false →
      finished t (taken calls) k i ≡ running t (course calls) k i

-- for every valid table, in its sixteen slots, and every list of calls
abbrev pub EveryCalls : Type 0
EveryCalls = (t : Table) (calls : List Call) → length t.rules ≡ most_rules → valid_table t ≡ true → Grown t calls
