-- Document 01's sentences on the notebook, beside the definitions that compute. Proved as `words`
-- in proofs/Words.
use Rattle.std.specs.Prelude.{◌≡◌, List, [], ℕ}
use Rattle.declare.specs.declared.Event.{Event}
use Rattle.declare.specs.declared.Rule.{Rule}
use Rattle.declare.specs.Slots.{table_of}
use Rattle.run.specs.declared.Run.{Run}
use Rattle.run.specs.Start.{new_run}
use Rattle.run.specs.Words.{Finishes}
use Rattle.line.specs.Texts.{All, Stop}
use Rattle.cycle_text.specs.Cycle.{cycle_text_of}
use Rattle.rule_text.specs.Rules.{rules_text_of}
use Rattle.notebook.specs.Types.{Rules, Cycle}
use Rattle.notebook.specs.Notebook.{read_as, not_read, notebook_of, notebook_run}

-- "takes both texts, rules first, and answers a closed run; its refusal also says which text"
pub record Words (rules cycle : List ℕ) : Type 0 where
  -- the rules text is refused, whatever the cycle text is
  pub rules_refused : (n line : ℕ) → rules_text_of rules ≡ Stop n line → notebook_of rules cycle ≡ not_read Rules n line
  pub cycle_refused : (rs : List Rule) (n line : ℕ) → rules_text_of rules ≡ All rs →
      cycle_text_of cycle ≡ Stop n line → notebook_of rules cycle ≡ not_read Cycle n line
  pub both_accepted : (rs : List Rule) (es : List Event) → rules_text_of rules ≡ All rs →
      cycle_text_of cycle ≡ All es → (r : Run) × (notebook_of rules cycle ≡ read_as r) × Finishes (table_of rs) es r
  -- the run beside the answer
  pub rules_refused_run : (n line : ℕ) → rules_text_of rules ≡ Stop n line → notebook_run rules cycle ≡ new_run (table_of [])
  pub cycle_refused_run : (rs : List Rule) (n line : ℕ) → rules_text_of rules ≡ All rs →
      cycle_text_of cycle ≡ Stop n line → notebook_run rules cycle ≡ new_run (table_of rs)
  pub accepted_run : (r : Run) → notebook_of rules cycle ≡ read_as r → notebook_run rules cycle ≡ r
