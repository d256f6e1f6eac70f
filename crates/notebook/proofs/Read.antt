-- What stands behind a reply: of a run that was read, the rules and events of the two texts, so
-- that it is valid; of a refusal, a line that is reached.
use mathlib.Core.Path.{◌≡◌, refl, sym, ap, ◌∙◌}
use mathlib.Core.Bool.{true}
use mathlib.Core.List.{List}
use Prim.Native.Nat.{ℕ, ◌+◌, ◌≤◌}
use native.Mathlib.Omega.{arith}
use lib.ListN.{length}
use Rattle.declare.specs.declared.Event.{Event}
use Rattle.declare.specs.declared.Rule.{Rule}
use Rattle.declare.specs.Limits.{most_events}
use Rattle.declare.specs.Rules.{valid_table}
use Rattle.declare.specs.Slots.{event_slots, table_of}
use Rattle.declare.specs.Steps.{Cycle}
use Rattle.declare.proofs.Tables.{table_slots, table_valid}
use Rattle.run.specs.declared.Run.{Run}
use Rattle.run.specs.Records.{valid_run}
use Rattle.run.specs.Close.{finished_run}
use Rattle.run.proofs.Grown.{finished_run_lem}
use Rattle.line.specs.Texts.{Records, All, Stop}
use Rattle.cycle_text.specs.Cycle.{cycle_text_of}
use Rattle.cycle_text.proofs.RoundTrips as cycle_text_lem
use Rattle.rule_text.specs.Rules.{rules_text_of}
use Rattle.rule_text.specs.Written.{ValidRules}
use Rattle.rule_text.proofs.RoundTrips as rule-text
use Rattle.notebook.specs.Types.{Text}
use Rattle.notebook.specs.Notebook.{read_as, not_read, read_with, finished_of, notebook_of}

same_run : {q r : Run} → read_as q ≡ read_as r → q ≡ r
same_run e = cc

same_line : {t u : Text} {m n k l : ℕ} → not_read t m k ≡ not_read u n l → k ≡ l
same_line e = cc

pub not_both : {text : Text} {n line : ℕ} {r : Run} → not_read text n line ≡ read_as r → ⊥
not_both e =
    let z : ◌≡◌ {A = ℕ} 0 1 = cc in
    omega arith

-- ---- a run that was read

pub record ReadFrom (rules cycle : List ℕ) (r : Run) : Type 0 where
  pub rs : List Rule
  pub es : List Event
  pub rules_read : rules_text_of rules ≡ All rs
  pub cycle_read : cycle_text_of cycle ≡ All es
  pub run : r ≡ finished_run (table_of rs) (length es) (event_slots es)

pub read_from : (rules cycle : List ℕ) (r : Run) → notebook_of rules cycle ≡ read_as r → ReadFrom rules cycle r
unfolding notebook_of finished_of read_with
read_from rules cycle r = go (rules_text_of rules) (cycle_text_of cycle) refl refl
  where
    go : (x : Records Rule) (y : Records Event) → rules_text_of rules ≡ x → cycle_text_of cycle ≡ y → finished_of x y ≡ read_as r → ReadFrom rules cycle r
    go (All rs) (All es) p q e = record { rs = rs; es = es; rules_read = p; cycle_read = q; run = sym (same_run e) }
    go (All rs) (Stop n line) p q e = absurd (not_both e)
    go (Stop n line) y p q e = absurd (not_both e)

-- the table of accepted rules, and the run of accepted texts
module _ (rules : List ℕ) (rs : List Rule) (p : rules_text_of rules ≡ All rs) where
  rules_valid : ValidRules rs
  rules_valid = ((rule-text.round_trips).valid rules rs p).0

  pub read_table : valid_table (table_of rs) ≡ true
  read_table = table_valid rs rules_valid.most rules_valid.valid

  pub read_slots : length (table_of rs).rules ≡ 16
  read_slots = table_slots rs rules_valid.most

pub read_valid : (rules cycle : List ℕ) (r : Run) → notebook_of rules cycle ≡ read_as r → valid_run r ≡ true
read_valid rules cycle r e =
    let f = read_from rules cycle r e in
    let c : Cycle f.es = (cycle_text_lem.round_trips).valid cycle f.es f.cycle_read in
    ap valid_run f.run ∙ (finished_run_lem (table_of f.rs) (read_slots rules f.rs f.rules_read) (read_table rules f.rs f.rules_read) f.es c).valid

-- ---- a refusal

pub refused_at : (rules cycle : List ℕ) (text : Text) (n line : ℕ) → notebook_of rules cycle ≡ not_read text n line → line ≤ most_events + 1
unfolding notebook_of finished_of read_with
refused_at rules cycle text n line = go (rules_text_of rules) (cycle_text_of cycle) refl refl
  where
    go : (x : Records Rule) (y : Records Event) → rules_text_of rules ≡ x → cycle_text_of cycle ≡ y → finished_of x y ≡ not_read text n line → line ≤ most_events + 1
    go (All rs) (All es) p q e = absurd (not_both (sym e))
    go (All rs) (Stop m l) p q e = omega (arith, same_line e, cycle_text_lem.refused_at cycle m l q)
    go (Stop m l) y p q e = omega (arith, same_line e, rule-text.refused_at rules m l p)
