-- Demand 2: "in a closed cycle" exactly the events that fit are activations, each "fulfilled when
-- its template's published formula holds there, otherwise violated, and the target named is the one
-- document 01 picks", with document 02's card 2: "the latest eligible position at or before the
-- activation; failing that, the first after it". All of it of what the call standing answers.
-- Under a rule about the cycle as such, document 02's card 3, "position 0, in place of events, is
-- its one activation".
use Rattle.std.specs.Prelude.{◌≡◌, ◌↔◌, true, false, List, ℕ, ◌≤◌, length}
use Rattle.declare.specs.declared.Event.{Event}
use Rattle.declare.specs.declared.Rule.{Rule}
use Rattle.declare.specs.declared.Table.{Table}
use Rattle.declare.specs.declared.Standing.{Standing}
use Rattle.declare.specs.declared.Standing.TheVariants.{Idle, Fulfilled, Violated}
use Rattle.declare.specs.Events.{event_at}
use Rattle.declare.specs.Limits.{most_rules}
use Rattle.declare.specs.Rules.{valid_table, rule_at}
use Rattle.declare.specs.Suits.{activation_at}
use Rattle.declare.specs.Verdicts.{verdict}
use Rattle.declare.specs.Steps.{Call, taken}
use Rattle.declare.specs.Words.{Names, target_in}
use Rattle.formula.specs.Formula.{Formula, Holds}
use Rattle.formula.specs.Table.{fixed_of, published_of}
use Rattle.formula.specs.Agreement.{asked_at, Plain}
use Rattle.run.specs.declared.Run.{Run}
use Rattle.declare.specs.Answers.{accepted}
use Rattle.run.specs.Close.{closed_run}
use Rattle.run.specs.Queries.{is_position, standing_of}
use Rattle.run.specs.Grown.{grown}
use Rattle.line.specs.Texts.{All}
use Rattle.cycle_text.specs.Cycle.{cycle_text_of}
use Rattle.rule_text.specs.Rules.{rules_text_of}
use Rattle.declare.specs.Slots.{table_of}
use Rattle.notebook.specs.Notebook.{read_as, notebook_of}

-- rule k and position i, both of the cycle; position 0 under a rule about the cycle
pub record InCycle (t : Table) (es : List Event) (k i : ℕ) : Type 0 where
  pub rule_low : 1 ≤ k
  pub rule_high : k ≤ t.count
  pub position : is_position t (length es) k i ≡ true

-- what the call standing answers, whatever target it names
abbrev pub StandsFulfilled : Run → ℕ → ℕ → Type 0
StandsFulfilled r k i = (j : ℕ) × (standing_of r k i ≡ accepted (Fulfilled j))

abbrev pub StandsViolated : Run → ℕ → ℕ → Type 0
StandsViolated r k i = (j : ℕ) × (standing_of r k i ≡ accepted (Violated j))

-- "fulfilled when .. formula holds there, otherwise violated"; at position 0 it is asked at the
-- first position
pub record Decides (r : Run) (k i : ℕ) (rule : Rule) (es : List Event) (φ : Formula) : Type 0 where
  pub fulfilled : StandsFulfilled r k i ↔ Holds rule es (event_at es i) φ (asked_at i)
  pub violated : StandsViolated r k i ↔ (Holds rule es (event_at es i) φ (asked_at i) → ⊥)

-- rule k at position i of the closed run r, whose events are es
pub record Follows (rule : Rule) (es : List Event) (r : Run) (k i : ℕ) : Type 0 where
  pub verdicts : standing_of r k i ≡ accepted (verdict rule es i)
  -- an event that does not fit stands idle, and no other does
  pub idle : (standing_of r k i ≡ accepted Idle) ↔ (activation_at rule es i ≡ false)
  -- one that fits is an activation, and the formula decides; 3 and 6 as document 01 fixes them,
  -- with the window from the activation, and the event at hand tested for "no activation of the
  -- rule"
  pub fixed : activation_at rule es i ≡ true → Decides r k i rule es (fixed_of rule)
  -- Table 2 to the letter; 3 and 6 where the window is 0 to no end, without activation condition;
  -- 13 to 16 are Table 2's four at the first position, the window from the time of the first event
  pub published : activation_at rule es i ≡ true
      → (rule.code ≡ 3 → Plain rule)
      → (rule.code ≡ 6 → Plain rule)
      → Decides r k i rule es (published_of rule)
  -- the target named is the latest eligible position at or before i; failing that, the first after
  -- it; 0 if none is eligible; of position 0 that is "the earliest event that fits"
  pub names : activation_at rule es i ≡ true → (s : Standing) → standing_of r k i ≡ accepted s → Names rule es i (target_in s)

-- the closed run r of the rules t and the events es
abbrev pub FollowsFormulas : Table → List Event → Run → Type 0
FollowsFormulas t es r = (k i : ℕ) → InCycle t es k i → Follows (rule_at t k) es r k i

-- a grown run, closed; proved as `demand2_grown`
abbrev pub Demand2Grown : Type 0
Demand2Grown =
    (t : Table) (calls : List Call)
    → length t.rules ≡ most_rules
    → valid_table t ≡ true
    → FollowsFormulas t (taken calls) (closed_run (grown t calls))

-- a run that the notebook has read; proved as `demand2_read`
abbrev pub Demand2Read : Type 0
Demand2Read =
    (rules_text the_cycle_text : List ℕ) (rules : List Rule) (es : List Event)
    → rules_text_of rules_text ≡ All rules
    → cycle_text_of the_cycle_text ≡ All es
    → (r : Run) × (notebook_of rules_text the_cycle_text ≡ read_as r) × FollowsFormulas (table_of rules) es r
