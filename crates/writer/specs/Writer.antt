-- The rules of a table and the events of a run, written as the texts of document 01. The whole
-- record is checked (11), and a run may be closed or not.
use Rattle.std.specs.Prelude.{List, ℕ, Result}
use Rattle.declare.specs.declared.Table.{Table}
use Rattle.declare.specs.Rules.{rules_of, valid_table}
use Rattle.declare.specs.Answers.{Answer}
use Rattle.run.specs.declared.Run.{Run}
use Rattle.run.specs.Records.{events_of, valid_run}
use Rattle.cycle_text.specs.Written.{events_text}
use Rattle.rule_text.specs.Written.{rules_text}
use Rattle.declare.specs.declared.Refusal.{Refusal}
use Rattle.buffer.specs.Writes.{write_of, Writes}

-- the bytes of the longest texts: 155 a rule, 62 an event
abbrev pub rules_bytes : ℕ
rules_bytes = 2480

abbrev pub cycle_bytes : ℕ
cycle_bytes = 15872

-- the call write_rules: its answer, and what it leaves
abbrev pub write_rules_of : Table → List ℕ → Answer ℕ
write_rules_of t buffer = write_of (valid_table t) (rules_text (rules_of t)) buffer

abbrev pub WritesRules : Table → List ℕ → List ℕ → Result ℕ Refusal → Type 0
WritesRules t before after answer = Writes (valid_table t) (rules_text (rules_of t)) before after answer

-- the call write_cycle
abbrev pub write_cycle_of : Run → List ℕ → Answer ℕ
write_cycle_of r buffer = write_of (valid_run r) (events_text (events_of r)) buffer

abbrev pub WritesCycle : Run → List ℕ → List ℕ → Result ℕ Refusal → Type 0
WritesCycle r before after answer = Writes (valid_run r) (events_text (events_of r)) before after answer
