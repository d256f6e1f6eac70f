-- The calls that write promise an equation with the written text. Reading and writing undo each
-- other on texts (RoundTrips), and the calls that read promise what their text holds.
use mathlib.Core.Path.{◌≡◌, refl, ap, subst, ◌∙◌}
use Rattle.std.specs.Prelude.{Result, Ok}
use Rattle.number.proofs.Results.{ok_ok}
use mathlib.Core.Bool.{Bool, true}
use mathlib.Core.List.{List, map}
use Prim.Native.Nat.{ℕ}
use native.Mathlib.Omega.{arith}
use lib.ListN.{take}
use Rattle.declare.specs.declared.Event.{Event}
use Rattle.declare.specs.declared.Rule.{Rule}
use Rattle.declare.specs.declared.Table.{Table}
use Rattle.declare.specs.Rules.{rules_of, valid_table}
use Rattle.declare.specs.Slots.{table_of}
use Rattle.declare.proofs.Tables.{table_rules}
use Rattle.run.specs.declared.Run.{Run}
use Rattle.run.specs.Records.{events_of, valid_run}
use Rattle.run.specs.Start.{idle_run}
use Rattle.run.specs.Close.{finished_run}
use Rattle.run.proofs.Answered.{valid_cycle}
use Rattle.run.proofs.Whole.{finished_events}
use Rattle.line.specs.Texts.{All}
use Rattle.line.specs.declared.LineRefusal.{LineRefusal}
use Rattle.cycle_text.specs.declared.Events.{Events}
use Rattle.cycle_text.specs.Cycle.{cycle_text_of}
use Rattle.cycle_text.specs.Written.{events_text}
use Rattle.cycle_text.specs.Reads.{events_in, slots_of, ReadsCycle}
use Rattle.cycle_text.proofs.Accepted.{accepted_events, events_read}
use Rattle.cycle_text.proofs.RoundTrips.{round_trips as cycle-trips}
use Rattle.rule_text.specs.Rules.{rules_text_of}
use Rattle.rule_text.specs.Written.{rules_text, canonical, rewritten}
use Rattle.rule_text.specs.Reads.{ReadsRules}
use Rattle.rule_text.proofs.Accepted.{accepted_rules, rules_read}
use Rattle.rule_text.proofs.RoundTrips.{valid_rules, round_trips as rules-trips}
use Rattle.buffer.specs.Writes.{Writes}
use Rattle.buffer.proofs.Writes.{written, comes_out, never_short}
use Rattle.writer.specs.Writer.{WritesRules, WritesCycle}
use Rattle.writer.proofs.Room.{rules_room, cycle_room}
use Rattle.notebook.specs.Notebook.{read_as, notebook_of}
use Rattle.notebook.proofs.Read.{read_from, read_table, read_valid}
use Rattle.demands.specs.PrintBack.{ComesOut, PrintBack}

-- ---- a text and a buffer

-- the text of a valid record
out : (valid : Bool) (text : List ℕ) → valid ≡ true → ComesOut text (Writes valid text)
out valid text v before after answer room w =
    let p = comes_out valid text before after answer v room w in
    record { returned = p.0; left = p.1 }

-- ---- a written text, read

rules_back : (t : Table) (before after : List ℕ) (n : ℕ) (read : Result Table LineRefusal) → WritesRules t before after (Ok n) → ReadsRules (take n after) read → read ≡ Ok (rewritten t)
rules_back t before after n read w h =
    let p = written (valid_table t) (rules_text (rules_of t)) before after n w in
    let e : rules_text_of (take n after) ≡ All (map canonical (rules_of t)) = ap rules_text_of p.1 ∙ rules-trips.read (rules_of t) (valid_rules t p.0) in
    rules_read (take n after) read h (map canonical (rules_of t)) e

cycle_back : (r : Run) (before after : List ℕ) (n : ℕ) (read : Result Events LineRefusal) → WritesCycle r before after (Ok n) → ReadsCycle (take n after) read → read ≡ Ok (slots_of (events_of r))
cycle_back r before after n read w h =
    let p = written (valid_run r) (events_text (events_of r)) before after n w in
    let e : cycle_text_of (take n after) ≡ All (events_of r) = ap cycle_text_of p.1 ∙ cycle-trips.read (events_of r) (valid_cycle r p.0) in
    events_read (take n after) read h (events_of r) e

-- ---- an accepted text, written again

-- of the table of its rules
module _ (text : List ℕ) (rs : List Rule) (read : rules_text_of text ≡ All rs) where
  same_text : rules_text (rules_of (table_of rs)) ≡ text
  same_text = ap rules_text (table_rules rs) ∙ rules-trips.again text rs read

  table_out : ComesOut text (WritesRules (table_of rs))
  table_out = subst (λ (s : List ℕ). ComesOut s (WritesRules (table_of rs))) same_text (out _ _ (read_table text rs read))

-- of a valid run with its events
run_out : (text : List ℕ) (es : List Event) (r : Run) → cycle_text_of text ≡ All es → valid_run r ≡ true → events_of r ≡ es → ComesOut text (WritesCycle r)
run_out text es r read v e =
    let same : events_text (events_of r) ≡ text = ap events_text e ∙ cycle-trips.again text es read in
    subst (λ (s : List ℕ). ComesOut s (WritesCycle r)) same (out _ _ v)

-- ---- all of it

rules_again : (text : List ℕ) (t : Table) → ReadsRules text (Ok t) → ComesOut text (WritesRules t)
rules_again text t h =
    let rs = rules_of t in
    let e : rules_text_of text ≡ All rs = accepted_rules text (Ok t) h t refl in
    let same : t ≡ table_of rs = ok_ok (rules_read text (Ok t) h rs e) in
    rw same (table_out text rs e)

notebook_again : (rules cycle : List ℕ) (r : Run) → notebook_of rules cycle ≡ read_as r → ComesOut rules (WritesRules r.table) × ComesOut cycle (WritesCycle r)
unfolding finished_run idle_run
notebook_again rules cycle r e =
    let f = read_from rules cycle r e in (
      rw f.run (table_out rules f.rs f.rules_read),
      run_out cycle f.es r f.cycle_read (read_valid rules cycle r e) (ap events_of f.run ∙ finished_events (table_of f.rs) f.es),
    )

pub print_back : PrintBack
print_back =
    record {
      rules_read = rules_back;
      cycle_read = cycle_back;
      rules_room = λ t buffer h e. never_short (valid_table t) (rules_text (rules_of t)) buffer (λ v. (let l = rules_room t v in omega arith)) e;
      cycle_room = λ r buffer h e. never_short (valid_run r) (events_text (events_of r)) buffer (λ v. (let l = cycle_room r v in omega arith)) e;
      rules_again = rules_again;
      cycle_again = λ text read r h v e. run_out text (events_in read) r (accepted_events text (Ok read) h read refl) v e;
      notebook_again = notebook_again;
    }
