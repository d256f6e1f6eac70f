-- The definitions that have a case for position 0: what they say there, and at an event.
use mathlib.Core.Path.{◌≡◌, refl, sym, ◌∙◌}
use mathlib.Core.Bool.{true, false, not, ◌&&◌, true≢false}
use mathlib.Core.List.{List}
use Prim.Native.Nat.{ℕ, zero, suc, ◌≤◌}
use native.Mathlib.Omega.{arith}
use borrow.Author.Tests.{ne_eqb, lt-leb}
use lib.Dec.{eqb}
use Rattle.declare.specs.Types.{Event, Rule}
use Rattle.declare.specs.Events.{event_at}
use Rattle.declare.specs.Overall.{is_overall}
use Rattle.declare.specs.Suits.{is_activation, activation_at, suits}
use Rattle.declare.specs.Templates.{in_reach, reach_of, polarity_of}
use Rattle.declare.specs.Verdicts.{fits_at, eligible, target, decided, formula_of, fulfilled_if, decision}
use Rattle.declare.specs.Reachability.{can_come, can_occur, is_settled, undecided}
use Rattle.declare.specs.Steps.{closing}

-- the templates 1 to 12 are not about the cycle
pub not_overall : (code : ℕ) → code ≤ 12 → is_overall code ≡ false
unfolding is_overall
not_overall code few = rw (lt-leb 13 code (omega arith)) refl

module _ (r : Rule) (es : List Event) where
  pub activation_zero : activation_at r es 0 ≡ is_overall r.code
  unfolding activation_at
  activation_zero = refl

  pub eligible_zero : (j : ℕ) → eligible r es 0 j ≡ fits_at r es j
  unfolding eligible
  eligible_zero j = refl

  pub decision_zero : decision r es 0 ≡ fulfilled_if (formula_of r es) (target r es 0)
  unfolding decision
  decision_zero = refl

  pub undecided_zero : (h : ℕ) → undecided r es h 0 ≡ (not (is_settled r es) && can_occur r es h)
  unfolding undecided
  undecided_zero h = refl

  pub closing_zero : closing r es 0 ≡ decision r es 0
  unfolding closing
  closing_zero = refl

  module _ (i : ℕ) (low : 1 ≤ i) where
    at_event : eqb i 0 ≡ false
    at_event = ne_eqb i 0 (omega arith)

    pub activation_event : activation_at r es i ≡ is_activation r (event_at es i)
    unfolding activation_at
    activation_event = rw at_event

    pub eligible_event : (j : ℕ) → eligible r es i j ≡ (suits r (event_at es i) (event_at es j) && in_reach (reach_of r) (activation_at r es) i j)
    unfolding eligible
    eligible_event j = rw at_event

    pub decision_event : decision r es i ≡ decided (polarity_of r) (target r es i)
    unfolding decision
    decision_event = rw at_event

    pub undecided_event : (h : ℕ) → undecided r es h i ≡ (eqb (target r es i) 0 && can_come r es h i)
    unfolding undecided
    undecided_event h = rw at_event

    pub closing_event : closing r es i ≡ decided (polarity_of r) 0
    unfolding closing
    closing_event = rw at_event

  -- an activation under one of the templates 1 to 12 is an event
  pub active_event : (i : ℕ) → activation_at r es i ≡ true → r.code ≤ 12 → 1 ≤ i
  active_event zero act few = absurd (true≢false (sym act ∙ activation_zero ∙ not_overall r.code few))
  active_event (suc i) act few = omega arith
