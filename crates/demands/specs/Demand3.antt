-- Demand 3: a run, grown by any list of takes and clock notices.
use Rattle.std.specs.Prelude.{◌≡◌, ◌↔◌, true, false, List, ◌++◌, ℕ, ◌≤◌, length}
use Rattle.declare.specs.declared.Event.{Event}
use Rattle.declare.specs.declared.Table.{Table}
use Rattle.declare.specs.declared.Rule.{Rule}
use Rattle.declare.specs.declared.Standing.{Standing}
use Rattle.declare.specs.declared.Standing.TheVariants.{Idle, Open}
use Rattle.declare.specs.Lists.{all}
use Rattle.declare.specs.Limits.{most_rules}
use Rattle.declare.specs.Rules.{rules_of, valid_table, rule_at}
use Rattle.declare.specs.Suits.{activation_at}
use Rattle.declare.specs.Standings.{is_fulfilled, is_violated, is_decided}
use Rattle.declare.specs.Verdicts.{verdict}
use Rattle.declare.specs.Continuations.{Course, horizon, continuation}
use Rattle.declare.specs.Steps.{Call, course, taken}
use Rattle.declare.specs.Exactness.{InEvery, InSome}
use Rattle.declare.specs.Words.{Names, target_in}
use Rattle.run.specs.declared.Run.{Run}
use Rattle.declare.specs.Answers.{accepted}
use Rattle.run.specs.Records.{events_of, course_of, with_clock, Sized}
use Rattle.run.specs.Calls.{call_of}
use Rattle.run.specs.Close.{closed_run}
use Rattle.run.specs.Queries.{standing_of, totals_of}
use Rattle.run.specs.Grown.{grown, finished, RunOf, Grown}
use Rattle.line.specs.Fields.{is_byte}
use Rattle.cycle_text.specs.Written.{events_text}
use Rattle.rule_text.specs.Written.{rules_text, rewritten}
use Rattle.writer.specs.Writer.{rules_bytes, cycle_bytes}
use Rattle.notebook.specs.Notebook.{read_as, notebook_of}
use Rattle.demands.specs.Demand2.{InCycle, StandsFulfilled, StandsViolated}

-- ---- early verdicts

-- what the call standing answers for rule k at position i of the run r, and how all cycles that go
-- on from its course c, its events and its kept time, end there
pub record Early (rule : Rule) (c : Course) (r : Run) (k i : ℕ) : Type 0 where
  -- "fulfilled exactly when it is fulfilled in every continuation"
  pub fulfilled : StandsFulfilled r k i ↔ InEvery is_fulfilled rule c.events (horizon c) i
  -- "violated exactly when it is violated in every continuation"
  pub violated : StandsViolated r k i ↔ InEvery is_violated rule c.events (horizon c) i
  -- "open exactly when two continuations differ on it"
  pub undecided : (standing_of r k i ≡ accepted Open) ↔ (InSome is_fulfilled rule c.events (horizon c) i × InSome is_violated rule c.events (horizon c) i)
  -- "every other taken event stands idle"
  pub idle : (standing_of r k i ≡ accepted Idle) ↔ (activation_at rule c.events i ≡ false)
  -- a decided one keeps its verdict and its target in every continuation
  pub kept : (s : Standing) → standing_of r k i ≡ accepted s → is_decided s ≡ true
      → (added : List Event) → continuation (horizon c) added ≡ true → verdict rule (c.events ++ added) i ≡ s
  -- and the target it names is the nearest, as in a closed cycle
  pub names : (s : Standing) → standing_of r k i ≡ accepted s → is_decided s ≡ true → Names rule c.events i (target_in s)

-- of a run with the rules t and the course c
abbrev pub EarlyVerdicts : Table → Course → Run → Type 0
EarlyVerdicts t c r = (k i : ℕ) → InCycle t c.events k i → Early (rule_at t k) c r k i

-- a record nobody grew, r, and the one after an accepted take or notice, `next`: "decided standings
-- at taken positions are carried over, all others follow from the events now in the record"
pub record JudgedFrom (r next : Run) (k i : ℕ) : Type 0 where
  pub carried : (s : Standing) → standing_of r k i ≡ accepted s → is_decided s ≡ true → standing_of next k i ≡ accepted s
  pub judged : ((s : Standing) → standing_of r k i ≡ accepted s → is_decided s ≡ false) → Early (rule_at next.table k) (course_of next) next k i

-- position 0 too; proved as `every_record`
abbrev pub EveryRecord : Type 0
EveryRecord =
    (r next : Run) (call : Call) → Sized r → call_of r call ≡ accepted next
    → (k i : ℕ) → InCycle next.table (events_of next) k i → JudgedFrom r next k i

-- ---- the notebook

-- a list of numbers that a reader can be handed as bytes, at most so many
pub record Bytes (most : ℕ) (text : List ℕ) : Type 0 where
  pub bytes : all is_byte text ≡ true
  pub few : length text ≤ most

-- "the notebook reading on the two texts whose lines are the table's rules and the taken events"
-- gives the run r, and r answers as the grown run does after close
pub record ReadBack (t : Table) (calls : List Call) (r : Run) : Type 0 where
  -- both fit the 32768 bytes of a file of `report`
  pub rules_text_lem : Bytes rules_bytes (rules_text (rules_of t))
  pub cycle_text_lem : Bytes cycle_bytes (events_text (taken calls))
  pub reply : notebook_of (rules_text (rules_of t)) (events_text (taken calls)) ≡ read_as r
  -- its kept time is 0
  pub run : RunOf (rewritten t) (record { events = taken calls; clock = 0 }) true (finished (rewritten t) (taken calls)) r
  pub cells : r.cells ≡ (closed_run (grown t calls)).cells
  pub overall : r.overall ≡ (closed_run (grown t calls)).overall
  pub standing : (k i : ℕ) → standing_of r k i ≡ standing_of (closed_run (grown t calls)) k i
  pub totals : (k : ℕ) → totals_of r k ≡ totals_of (closed_run (grown t calls)) k

-- ---- the demand

-- the table t, with anything in its unused slots, and the calls, refused ones included
pub record Demand3 (t : Table) (calls : List Call) : Type 0 where
  -- the run has the table, exactly the taken events and the kept time; each call, and after close,
  -- answers so
  pub run : Grown t calls
  -- after every list of calls, the empty one included, position 0 too
  pub early : EarlyVerdicts t (course calls) (grown t calls)
  -- "the standings that closing leaves depend on rules and events only": other calls that take the
  -- same events leave the same closed run, but for their kept time
  pub alike : (others : List Call) → taken others ≡ taken calls
      → closed_run (grown t others) ≡ with_clock (closed_run (grown t calls)) (course others).clock
  pub notebook : (r : Run) × ReadBack t calls r

-- proved as `demand3`
abbrev pub EveryTable : Type 0
EveryTable = (t : Table) (calls : List Call) → length t.rules ≡ most_rules → valid_table t ≡ true → Demand3 t calls
