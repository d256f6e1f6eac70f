-- The notebook's definitions compute what document 01's sentences say, by the outcomes of the two
-- readers.
use mathlib.Core.Path.{ap}
use mathlib.Core.List.{List}
use Prim.Native.Nat.{ℕ}
use lib.ListN.{length}
use Rattle.declare.specs.Slots.{event_slots, table_of}
use Rattle.run.specs.Close.{finished_run}
use Rattle.run.proofs.Words.{words as run-words}
use Rattle.rule_text.specs.Reads.{rules_in}
use Rattle.rule_text.specs.Rules.{rules_text_of}
use Rattle.notebook.specs.Notebook.{read_with, finished_of, notebook_of, run_beside, notebook_run}
use Rattle.notebook.specs.Words.{Words}
use Rattle.notebook.proofs.Replies.{accepted_texts_lem}

pub words : (rules cycle : List ℕ) → Words rules cycle
unfolding notebook_of finished_of read_with notebook_run run_beside rules_in
words rules cycle =
    record {
      rules_refused = λ n line p. rw p;
      cycle_refused = λ rs n line p q. rw (p, q);
      both_accepted = λ rs es p q. (finished_run (table_of rs) (length es) (event_slots es), accepted_texts_lem rules cycle rs es p q, run-words.finishes (table_of rs) es);
      rules_refused_run = λ n line p. rw p;
      cycle_refused_run = λ rs n line p q. rw (p, q);
      accepted_run = λ r p. ap (run_beside (table_of (rules_in (rules_text_of rules)))) p;
    }
