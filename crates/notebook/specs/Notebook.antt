-- "A finished cycle: the notebook reads both texts, the rules first, and gives the closed run."
use Rattle.std.specs.Prelude.{◌≡◌, List, ℕ, length, Result, Ok, Err}
use Rattle.declare.specs.declared.Event.{Event}
use Rattle.declare.specs.declared.Rule.{Rule}
use Rattle.declare.specs.declared.Table.{Table}
use Rattle.declare.specs.Slots.{event_slots, table_of}
use Rattle.declare.specs.Refusals.{number_of}
use Rattle.run.specs.declared.Run.{Run}
use Rattle.run.specs.Start.{new_run}
use Rattle.run.specs.Close.{finished_run}
use Rattle.line.specs.Texts.{Records, All, Stop}
use Rattle.cycle_text.specs.Cycle.{cycle_text_of}
use Rattle.rule_text.specs.Rules.{rules_text_of}
use Rattle.rule_text.specs.Reads.{rules_in}
use Rattle.notebook.specs.Types.{Text, Rules, Cycle, TextRefusal, Notebook}

-- a closed run; or the text that is refused, the number, and the line
pub data Reply : Type 0 where
  read_as : Run → Reply
  not_read : Text → ℕ → ℕ → Reply

-- what the events make of a table
unfoldable pub read_with : Table → Records Event → Reply
read_with t (All events) = read_as (finished_run t (length events) (event_slots events))
read_with t (Stop n line) = not_read Cycle n line

-- "rules first": the cycle text is looked at if the rules are accepted
unfoldable pub finished_of : Records Rule → Records Event → Reply
finished_of (All rules) events = read_with (table_of rules) events
finished_of (Stop n line) events = not_read Rules n line

unfoldable pub notebook_of : List ℕ → List ℕ → Reply
notebook_of rules cycle = finished_of (rules_text_of rules) (cycle_text_of cycle)

-- ---- the code's answer

unfoldable pub outcome_reply : Run → Result (Unit {0}) TextRefusal → Reply
outcome_reply run (Ok closed) = read_as run
outcome_reply run (Err r) = not_read r.text (number_of r.refusal) r.line

unfoldable pub notebook_reply : Notebook → Reply
notebook_reply r = outcome_reply r.run r.outcome

-- the run beside the answer; beside a refusal document 01 leaves it free: here the new run of the
-- rules read
unfoldable pub run_beside : Table → Reply → Run
run_beside t (read_as r) = r
run_beside t (not_read text n line) = new_run t

unfoldable pub notebook_run : List ℕ → List ℕ → Run
notebook_run rules cycle = run_beside (table_of (rules_in (rules_text_of rules))) (notebook_of rules cycle)

-- a call with the table t whose reply is this
pub record Reads (reply : Reply) (t : Table) (r : Notebook) : Type 0 where
  pub replies : notebook_reply r ≡ reply
  pub run : r.run ≡ run_beside t reply
