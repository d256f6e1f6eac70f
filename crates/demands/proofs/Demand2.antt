-- The run answers with verdicts, and the verdicts follow the formulas.
use mathlib.Core.Path.{◌≡◌, sym, ap, subst, ◌∙◌}
use mathlib.Core.Logic.{◌↔◌}
use mathlib.Core.Bool.{true, false, not}
use mathlib.Core.List.{List}
use Prim.Native.Nat.{ℕ}
use lib.ListN.{length}
use Rattle.declare.specs.declared.Event.{Event}
use Rattle.declare.specs.declared.Rule.{Rule}
use Rattle.declare.specs.declared.Table.{Table}
use Rattle.declare.specs.declared.Standing.{Standing}
use Rattle.declare.specs.declared.Standing.TheVariants.{Idle}
use Rattle.declare.specs.Limits.{most_rules}
use Rattle.declare.specs.Rules.{rule_at, valid_table}
use Rattle.declare.specs.Slots.{event_slots, table_of}
use Rattle.declare.specs.Suits.{activation_at}
use Rattle.declare.specs.Verdicts.{verdict}
use Rattle.declare.specs.Standings.{is_idle}
use Rattle.declare.specs.Words.{Names, target_in}
use Rattle.declare.specs.Steps.{Cycle, taken}
use Rattle.declare.proofs.Arrival.{rule_parts}
use Rattle.declare.proofs.Words.{judged}
use Rattle.declare.proofs.Exactness.{verdict_active}
use Rattle.declare.proofs.Tables.{rule_valid}
use Rattle.declare.proofs.Steps.{cycle_of_taken}
use Rattle.formula.specs.Formula.{Formula}
use Rattle.formula.specs.Table.{fixed_of, published_of}
use Rattle.formula.specs.Agreement.{Agrees, Activated}
use Rattle.formula.proofs.Agreement.{fixed_agrees, published_agrees}
use Rattle.run.specs.declared.Run.{Run}
use Rattle.declare.specs.Answers.{accepted}
use Rattle.run.specs.Close.{closed_run, finished_run}
use Rattle.run.specs.Queries.{standing_of}
use Rattle.run.specs.Grown.{grown, Answers, finished}
use Rattle.run.proofs.Answered.{position_within}
use Rattle.run.proofs.Grown.{every_calls, finished_answers}
use Rattle.cycle_text.proofs.RoundTrips.{round_trips as cycle-trips}
use Rattle.notebook.proofs.Replies.{accepted_texts_lem}
use Rattle.notebook.proofs.Read.{read_table, read_slots}
use Rattle.demands.specs.Demand2.{Decides, FollowsFormulas, Demand2Grown, Demand2Read}
use Rattle.demands.proofs.Standings.{stands_as, stands_so, stands_fulfilled, stands_violated}

-- not idle exactly if it is an activation
idle_is : (r : Rule) (es : List Event) (i : ℕ) → (verdict r es i ≡ Idle) ↔ (activation_at r es i ≡ false)
unfolding verdict
idle_is r es i = ((λ e. sym (verdict_active r es i) ∙ ap (λ (s : Standing). not (is_idle s)) e), (λ e. rw e))

-- any closed run that answers with the verdicts
pub follows : (t : Table) (es : List Event) (r : Run) → length t.rules ≡ most_rules → valid_table t ≡ true → Cycle es → Answers t es (finished t es) r → FollowsFormulas t es r
follows t es r slots valid cycle answers k i w =
    record {
      verdicts = answer;
      idle = stands_so r k i (verdict rule es i) answer Idle _ (idle_is rule es i);
      fixed = λ e. decides (fixed_of rule) (fixed_agrees rule es i (activated e));
      published = λ e three six. decides (published_of rule) (published_agrees rule es i (activated e) three six);
      names = λ e s a. subst (λ (u : Standing). Names rule es i (target_in u)) (stands_as r k i (verdict rule es i) answer s a) (judged rule es i e).names;
    }
  where
    rule : Rule
    rule = rule_at t k

    answer : standing_of r k i ≡ accepted (verdict (rule_at t k) es i)
    answer = answers.standing k i w.rule_low w.rule_high w.position

    activated : activation_at (rule_at t k) es i ≡ true → Activated (rule_at t k) es i
    activated e =
        record {
          template = (rule_parts (rule_at t k) (rule_valid t slots valid k w.rule_low w.rule_high)).template;
          falls = cycle.order;
          high = position_within t (length es) k i w.position;
          active = e;
        }

    decides : (φ : Formula) → Agrees (rule_at t k) es i φ → Decides r k i (rule_at t k) es φ
    decides φ a =
        record {
          fulfilled = stands_fulfilled r k i (verdict (rule_at t k) es i) answer _ a.fulfilled;
          violated = stands_violated r k i (verdict (rule_at t k) es i) answer _ a.violated;
        }

pub demand2_grown : Demand2Grown
demand2_grown t calls slots valid =
    follows t (taken calls) (closed_run (grown t calls)) slots valid (cycle_of_taken calls) (every_calls t calls slots valid).closed_answers

pub demand2_read : Demand2Read
demand2_read rules_text the_cycle_text rules es p q = (finished_run (table_of rules) (length es) (event_slots es), accepted_texts_lem rules_text the_cycle_text rules es p q, follows (table_of rules) es (finished_run (table_of rules) (length es) (event_slots es)) slots valid cycle (finished_answers (table_of rules) slots valid es cycle))
  where
    cycle : Cycle es
    cycle = cycle-trips.valid the_cycle_text es q

    slots : length (table_of rules).rules ≡ most_rules
    slots = read_slots rules_text rules p

    valid : valid_table (table_of rules) ≡ true
    valid = read_table rules_text rules p
