-- Card 1 of document 02: "a written text reads back as the same records, and an accepted text comes
-- out again byte for byte". Of the calls, by their contracts `WritesRules`, `WritesCycle`,
-- `ReadsRules` and `ReadsCycle`, whatever they are handed.
use Rattle.std.specs.Prelude.{◌≡◌, true, List, ◌++◌, ℕ, ◌≤◌, length, take, drop, Result, Ok}
use Rattle.declare.specs.declared.Table.{Table}
use Rattle.declare.specs.declared.Refusal.{Refusal}
use Rattle.declare.specs.Answers.{refused}
use Rattle.run.specs.declared.Run.{Run}
use Rattle.run.specs.Records.{events_of, valid_run}
use Rattle.line.specs.declared.LineRefusal.{LineRefusal}
use Rattle.cycle_text.specs.declared.Events.{Events}
use Rattle.cycle_text.specs.Reads.{events_in, slots_of, ReadsCycle}
use Rattle.rule_text.specs.Written.{rewritten}
use Rattle.rule_text.specs.Reads.{ReadsRules}
use Rattle.writer.specs.Writer.{rules_bytes, cycle_bytes, write_rules_of, WritesRules, write_cycle_of, WritesCycle}
use Rattle.notebook.specs.Notebook.{read_as, notebook_of}

-- "with the length returned and the bytes beyond it untouched"
pub record WrittenWhole (text before after : List ℕ) (answer : Result ℕ Refusal) : Type 0 where
  pub returned : answer ≡ Ok (length text)
  pub left : after ≡ text ++ drop (length text) before

-- a call with this contract writes the text, into every buffer that has room for it
abbrev pub ComesOut : List ℕ → (List ℕ → List ℕ → Result ℕ Refusal → Type 0) → Type 0
ComesOut text Contract =
    (before after : List ℕ) (answer : Result ℕ Refusal)
    → length text ≤ length before
    → Contract before after answer
    → WrittenWhole text before after answer

-- proved as `print_back`
pub record PrintBack : Type 0 where
  -- "a written text reads back as the same records", equal in the slots that are in use: the
  -- first n bytes of the buffer, n the length returned
  pub rules_read : (t : Table) (before after : List ℕ) (n : ℕ) (read : Result Table LineRefusal)
      → WritesRules t before after (Ok n)
      → ReadsRules (take n after) read
      → read ≡ Ok (rewritten t)
  pub cycle_read : (r : Run) (before after : List ℕ) (n : ℕ) (read : Result Events LineRefusal)
      → WritesCycle r before after (Ok n)
      → ReadsCycle (take n after) read
      → read ≡ Ok (slots_of (events_of r))
  -- a buffer of so many bytes is never too short
  pub rules_room : (t : Table) (buffer : List ℕ) → rules_bytes ≤ length buffer → write_rules_of t buffer ≡ refused 15 → ⊥
  pub cycle_room : (r : Run) (buffer : List ℕ) → cycle_bytes ≤ length buffer → write_cycle_of r buffer ≡ refused 15 → ⊥
  -- "an accepted text comes out again byte for byte": of the table read; of every valid run with
  -- the events read; and both texts of the notebook's run
  pub rules_again : (text : List ℕ) (t : Table) → ReadsRules text (Ok t) → ComesOut text (WritesRules t)
  pub cycle_again : (text : List ℕ) (read : Events) (r : Run)
      → ReadsCycle text (Ok read)
      → valid_run r ≡ true
      → events_of r ≡ events_in read
      → ComesOut text (WritesCycle r)
  pub notebook_again : (rules cycle : List ℕ) (r : Run)
      → notebook_of rules cycle ≡ read_as r
      → ComesOut rules (WritesRules r.table) × ComesOut cycle (WritesCycle r)
