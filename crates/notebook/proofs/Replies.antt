-- What the notebook replies, by the answers of the two readers.
use Rattle.std.proofs.Common.{◌≡◌, ap, ◌∙◌, List, ℕ, length, Ok}
use Rattle.declare.specs.declared.Event.{Event}
use Rattle.declare.specs.declared.Rule.{Rule}
use Rattle.declare.specs.declared.Table.{Table}
use Rattle.declare.specs.Rules.{rules_of}
use Rattle.declare.specs.Refusals.{number_of}
use Rattle.declare.specs.Slots.{event_slots, table_of, empty_table}
use Rattle.run.specs.declared.Run.{Run}
use Rattle.run.specs.Close.{finished_run}
use Rattle.line.specs.Texts.{All, Stop}
use Rattle.cycle_text.specs.declared.Events.{Events}
use Rattle.cycle_text.specs.Cycle.{cycle_text_of}
use Rattle.cycle_text.specs.Reads.{events_in, slots_of}
use Rattle.rule_text.specs.Rules.{rules_text_of}
use Rattle.rule_text.specs.Reads.{rules_in}
use Rattle.notebook.specs.Types.{Rules, Cycle, LineRefusal, Notebook}
use Rattle.notebook.specs.Notebook.{read_as, not_read, read_with, finished_of, notebook_of, outcome_reply, notebook_reply, run_beside, notebook_run, Reads}

-- ---- the cycle text

pub cycle_refused : (t : Table) (cycle : List ℕ) (cause : LineRefusal) (r : Notebook) → cycle_text_of cycle ≡ Stop (number_of cause.refusal) cause.line → Reads (not_read Cycle (number_of cause.refusal) cause.line) t r → Reads (read_with t (cycle_text_of cycle)) t r
unfolding read_with
cycle_refused t cycle cause r e q = rw e q

pub cycle_accepted : (t : Table) (cycle : List ℕ) (read : Events) (run : Run) → read ≡ slots_of (events_in read) → cycle_text_of cycle ≡ All (events_in read) → run ≡ finished_run t read.count read.events → Reads (read_with t (cycle_text_of cycle)) t (record { outcome = Ok tt; run = run })
unfolding read_with notebook_reply outcome_reply run_beside slots_of
cycle_accepted t cycle read run s e q =
    let same : run ≡ finished_run t (length (events_in read)) (event_slots (events_in read)) = q ∙ ap (λ (x : Events). finished_run t x.count x.events) s in
    rw e (record { replies = ap read_as same; run = same })

-- ---- the rules text

pub rules_refused : (rules cycle : List ℕ) (cause : LineRefusal) (r : Notebook) → rules_text_of rules ≡ Stop (number_of cause.refusal) cause.line → Reads (not_read Rules (number_of cause.refusal) cause.line) empty_table r → (notebook_reply r ≡ notebook_of rules cycle) × (r.run ≡ notebook_run rules cycle)
unfolding notebook_of finished_of notebook_run rules_in empty_table
rules_refused rules cycle cause r e q = rw e (q.replies, q.run)

pub rules_accepted : (rules cycle : List ℕ) (t : Table) (r : Notebook) → t ≡ table_of (rules_of t) → rules_text_of rules ≡ All (rules_of t) → Reads (read_with t (cycle_text_of cycle)) t r → (notebook_reply r ≡ notebook_of rules cycle) × (r.run ≡ notebook_run rules cycle)
unfolding notebook_of finished_of notebook_run rules_in
rules_accepted rules cycle t r s e w = rw (e, ← s) (w.replies, w.run)

-- two texts that are accepted
pub accepted_texts_lem : (rules_text the_cycle_text : List ℕ) (rules : List Rule) (es : List Event) → rules_text_of rules_text ≡ All rules → cycle_text_of the_cycle_text ≡ All es → notebook_of rules_text the_cycle_text ≡ read_as (finished_run (table_of rules) (length es) (event_slots es))
unfolding notebook_of finished_of read_with
accepted_texts_lem rules_text the_cycle_text rules es p q = rw (p, q)
