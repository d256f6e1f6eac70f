-- Demand 1: whoever calls "gets a result or one of" the sixteen numbers of document 01's table as
-- the cards of document 02 change it, "each only for its listed cause"; and "a refusal alters
-- neither run nor tally nor any lent buffer".
--
-- Each call on records has a list of causes, in the order of the documents. It is refused with the
-- number of the first that holds, and accepted if none holds. So has each line of a text
-- (LineCauses); a reader goes from line to line (Texts); the notebook reads the rules first.
use Rattle.std.specs.Prelude.{◌≡◌, ◌↔◌, Bool, true, not, ◌&&◌, List, [], ◌∷◌, ℕ, leb, ltb, length, Result}
use Rattle.declare.specs.declared.Event.{Event}
use Rattle.declare.specs.declared.Rule.{Rule}
use Rattle.declare.specs.declared.Table.{Table}
use Rattle.declare.specs.declared.Refusal.{Refusal}
use Rattle.declare.specs.declared.Refusal.TheVariants.{OutOfRange, TimeFalls, TooMany, WrongPhase, NotFound, InvalidRecord, TallyOverflow, BufferTooShort}
use Rattle.declare.specs.Events.{latest, well_formed}
use Rattle.declare.specs.Rules.{rules_of, valid_table}
use Rattle.declare.specs.Limits.{most_events}
use Rattle.declare.specs.Answers.{Answer, accepted, refused, after_call, answer_of}
use Rattle.declare.specs.Steps.{Call}
use Rattle.run.specs.declared.Run.{Run}
use Rattle.run.specs.Records.{events_of, horizon_of, totals_in, valid_run}
use Rattle.run.specs.Start.{start_of}
use Rattle.run.specs.Calls.{call_of, take_of, notice_of}
use Rattle.run.specs.Close.{close_of}
use Rattle.run.specs.Queries.{one_of, is_position, standing_of, totals_of}
use Rattle.tally.specs.declared.Tally.{Tally}
use Rattle.tally.specs.declared.answer.Counted.{Counted}
use Rattle.tally.specs.Tally.{has_room_for, absorb_of, tally_answer, Counts, Absorbs}
use Rattle.line.specs.Texts.{All, Stop}
use Rattle.cycle_text.specs.Cycle.{cycle_text_of}
use Rattle.cycle_text.specs.Written.{events_text}
use Rattle.rule_text.specs.Rules.{rules_text_of}
use Rattle.rule_text.specs.Written.{rules_text}
use Rattle.buffer.specs.Writes.{Writes}
use Rattle.writer.specs.Writer.{write_rules_of, write_cycle_of}
use Rattle.printing.specs.Report.{report_of, printed_of}
use Rattle.printing.specs.Printing.{write_report_of, print_texts_of}
use Rattle.notebook.specs.declared.Text.TheVariants.{Rules, Cycle}
use Rattle.notebook.specs.Notebook.{read_as, not_read, notebook_of}
use Rattle.demands.specs.Causes.{Cause, cause, First, none_holds}
use Rattle.demands.specs.LineCauses.{event_causes, rule_causes}
use Rattle.demands.specs.Texts.{Reads}

-- a call on records; a number that comes with a line (`has_line`) comes with line 0
pub record Refuses {A : Type 0} (causes : List Cause) (answer : Answer A) : Type 0 where
  pub refuses : (n : ℕ) → (answer ≡ refused n) ↔ First causes n
  pub accepts : ((a : A) × (answer ≡ accepted a)) ↔ (none_holds causes ≡ true)

-- ---- the orders

-- "start: 11"
unfoldable pub start_causes : Table → List Cause
start_causes t = cause InvalidRecord (not (valid_table t)) ∷ []

-- "take: 11, 9, 3, 7, 8"
unfoldable pub take_causes : Run → Event → List Cause
take_causes r e =
    cause InvalidRecord (not (valid_run r))
    ∷ cause WrongPhase r.closed
    ∷ cause OutOfRange (not (well_formed e))
    ∷ cause TimeFalls (ltb e.time (horizon_of r))
    ∷ cause TooMany (leb most_events r.count)
    ∷ []

-- notice: "11, on a closed run by 9, outside its range by 3, below the last event or notice by 7"
unfoldable pub notice_causes : Run → ℕ → List Cause
notice_causes r time =
    cause InvalidRecord (not (valid_run r))
    ∷ cause WrongPhase r.closed
    ∷ cause OutOfRange (ltb latest time)
    ∷ cause TimeFalls (ltb time (horizon_of r))
    ∷ []

-- "close: 11, 9"
unfoldable pub close_causes : Run → List Cause
close_causes r = cause InvalidRecord (not (valid_run r)) ∷ cause WrongPhase r.closed ∷ []

-- "standing and totals: 11, 10"; position 0 "counts as taken" under 13 to 16 and "of other rules is
-- 10"
unfoldable pub standing_causes : Run → ℕ → ℕ → List Cause
standing_causes r rule position =
    cause InvalidRecord (not (valid_run r))
    ∷ cause NotFound (not (one_of r.table.count rule && is_position r.table r.count rule position))
    ∷ []

unfoldable pub totals_causes : Run → ℕ → List Cause
totals_causes r rule =
    cause InvalidRecord (not (valid_run r)) ∷ cause NotFound (not (one_of r.table.count rule)) ∷ []

-- "tally: 11, 10, 9, 14": absorbing a rule of a run into a tally
unfoldable pub absorb_causes : Run → ℕ → Tally → List Cause
absorb_causes r rule t =
    cause InvalidRecord (not (valid_run r))
    ∷ cause NotFound (not (one_of r.table.count rule))
    ∷ cause WrongPhase (not r.closed)
    ∷ cause TallyOverflow (not (has_room_for t (totals_in r rule)))
    ∷ []

-- "15, the lent buffer is shorter than the text ..; checked after 11": writing the text of a record
-- that is valid or not
unfoldable pub write_causes : Bool → List ℕ → List ℕ → List Cause
write_causes valid text buffer =
    cause InvalidRecord (not valid) ∷ cause BufferTooShort (ltb (length buffer) (length text)) ∷ []

-- "rules first": the notebook looks at the cycle text if the rules are accepted
pub record ReadsBoth (rules cycle : List ℕ) : Type 0 where
  pub refuses_rules : (n line : ℕ) → (notebook_of rules cycle ≡ not_read Rules n line) ↔ (rules_text_of rules ≡ Stop n line)
  pub refuses_cycle : (n line : ℕ)
      → (notebook_of rules cycle ≡ not_read Cycle n line)
      ↔ (((rs : List Rule) × (rules_text_of rules ≡ All rs)) × (cycle_text_of cycle ≡ Stop n line))
  pub accepts : ((r : Run) × (notebook_of rules cycle ≡ read_as r))
      ↔ (((rs : List Rule) × (rules_text_of rules ≡ All rs)) × ((es : List Event) × (cycle_text_of cycle ≡ All es)))

-- ---- the demand; proved as `demand1`

pub record Demand1 : Type 0 where
  pub start : (t : Table) → Refuses (start_causes t) (start_of t)
  pub take : (r : Run) (e : Event) → Refuses (take_causes r e) (take_of r e)
  pub notice : (r : Run) (time : ℕ) → Refuses (notice_causes r time) (notice_of r time)
  pub close : (r : Run) → Refuses (close_causes r) (close_of r)
  pub standing : (r : Run) (rule position : ℕ) → Refuses (standing_causes r rule position) (standing_of r rule position)
  pub totals : (r : Run) (rule : ℕ) → Refuses (totals_causes r rule) (totals_of r rule)
  pub absorb : (r : Run) (rule : ℕ) (t : Tally) → Refuses (absorb_causes r rule t) (absorb_of r rule t)
  -- in the code a tally absorbs what was counted of a rule
  pub absorbs : (r : Run) (rule : ℕ) (c : Counted) (before next : Tally) (o : Result (Unit {0}) Refusal)
      → Counts r rule c
      → Absorbs before c next o
      → (tally_answer next o ≡ absorb_of r rule before) × (next ≡ after_call before (absorb_of r rule before))
  pub write_rules_lem : (t : Table) (buffer : List ℕ)
      → Refuses (write_causes (valid_table t) (rules_text (rules_of t)) buffer) (write_rules_of t buffer)
  pub write_cycle_lem : (r : Run) (buffer : List ℕ)
      → Refuses (write_causes (valid_run r) (events_text (events_of r)) buffer) (write_cycle_of r buffer)
  pub write_report_lem : (r : Run) (buffer : List ℕ)
      → Refuses (write_causes (valid_run r) (report_of r) buffer) (write_report_of r buffer)
  -- of two texts 15 alone; a refused text is printed as such
  pub print_texts_lem : (rules cycle buffer : List ℕ)
      → Refuses (write_causes true (printed_of rules cycle) buffer) (print_texts_of rules cycle buffer)
  -- "a refusal alters neither run nor tally nor any lent buffer"
  pub call_keeps : (r : Run) (call : Call) (n : ℕ) → call_of r call ≡ refused n → after_call r (call_of r call) ≡ r
  pub close_keeps : (r : Run) (n : ℕ) → close_of r ≡ refused n → after_call r (close_of r) ≡ r
  pub tally_keeps : (r : Run) (rule : ℕ) (t : Tally) (n : ℕ)
      → absorb_of r rule t ≡ refused n
      → after_call t (absorb_of r rule t) ≡ t
  -- the buffer at exit, by the contract of the calls that write
  pub buffer_keeps : (valid : Bool) (text before after : List ℕ) (answer : Result ℕ Refusal) (n : ℕ)
      → Writes valid text before after answer
      → answer_of answer ≡ refused n
      → after ≡ before
  -- the texts, with the numbers that their readers can give
  pub rules_text_lem : (text : List ℕ) → Reads rule_causes rules_text_of (1 ∷ 2 ∷ 3 ∷ 4 ∷ 6 ∷ 8 ∷ 12 ∷ 16 ∷ 17 ∷ []) text
  pub cycle_text_lem : (text : List ℕ) → Reads event_causes cycle_text_of (1 ∷ 2 ∷ 3 ∷ 7 ∷ 8 ∷ 12 ∷ []) text
  pub notebook : (rules cycle : List ℕ) → ReadsBoth rules cycle
