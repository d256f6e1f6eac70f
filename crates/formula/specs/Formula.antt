-- The logic of document 001, section 3.2, as far as its Table 2 goes: formulas, and Definition 3
-- over a list of events.
use Rattle.std.specs.Prelude.{◌≡◌, true, ◌&&◌, List, ℕ, ◌+◌, ◌-◌, ◌≤◌, ◌<◌, eqb, length, None}
use Rattle.declare.specs.declared.Event.{Event}
use Rattle.declare.specs.declared.Window.{Window}
use Rattle.declare.specs.declared.Rule.{Rule}
use Rattle.declare.specs.Conditions.{met}
use Rattle.declare.specs.Events.{event_at}
use Rattle.declare.specs.Suits.{occurs, is_activation, within, between, correlates}

-- [0, ∞), of an operator without an interval
abbrev pub always : Window
always = record { from = 0; until = None }

pub data Formula : Type 0 where
  -- the event is an activation of the rule: A, and φ_a of the event's own readings
  Activation : Formula
  -- A ∧ φ_a(x) to the letter: the event has the activation activity, and φ_a is asked of x, the
  -- activation judged
  BoundActivation : Formula
  -- A ∧ ∃x. φ_a(x) of an activity: the event has it, and φ_a is asked of the event's own readings
  Occurs : ℕ → Formula
  -- B ∧ φ_c: the event has the target activity, and meets the correlation against the activation
  Target : Formula
  -- the event lies so far in time from the activation judged: φ_τ
  Within : Window → Formula
  Not : Formula → Formula
  And : Formula → Formula → Formula
  -- X, Y
  Next : Window → Formula → Formula
  Previous : Window → Formula → Formula
  -- U, S: the formula that holds on the way, then the one that is reached
  Until : Window → Formula → Formula → Formula
  Since : Window → Formula → Formula → Formula

-- the timestamp τ of a position
unfoldable pub time_at : List Event → ℕ → ℕ
time_at es i = (event_at es i).time

-- Definition 3, for a rule, a cycle, and the activation judged (the valuation of x), at a position
-- from 1 to the number of events.
-- U's k is printed as k ∈ [j, i), which is empty; it is read as [i, j).
unfoldable pub Holds : Rule → List Event → Event → Formula → ℕ → Type 0
Holds r es a Activation i = is_activation r (event_at es i) ≡ true
Holds r es a BoundActivation i = (eqb (event_at es i).activity r.activation && met r.condition a a) ≡ true
Holds r es a (Occurs k) i = occurs r k (event_at es i) ≡ true
Holds r es a Target i = correlates r a (event_at es i) ≡ true
Holds r es a (Within I) i = within I (between a.time (time_at es i)) ≡ true
Holds r es a (Not φ) i = Holds r es a φ i → ⊥
Holds r es a (And φ ψ) i = Holds r es a φ i × Holds r es a ψ i
Holds r es a (Next I φ) i = (i < length es) × (within I (time_at es (i + 1) - time_at es i) ≡ true) × Holds r es a φ (i + 1)
Holds r es a (Previous I φ) i = (1 < i) × (within I (time_at es i - time_at es (i - 1)) ≡ true) × Holds r es a φ (i - 1)
Holds r es a (Until I φ ψ) i =
    (j : ℕ) × (i ≤ j) × (j ≤ length es) × (within I (time_at es j - time_at es i) ≡ true) × Holds r es a ψ j
    × ((k : ℕ) → i ≤ k → k < j → Holds r es a φ k)
Holds r es a (Since I φ ψ) i =
    (j : ℕ) × (1 ≤ j) × (j ≤ i) × (within I (time_at es i - time_at es j) ≡ true) × Holds r es a ψ j
    × ((k : ℕ) → j + 1 ≤ k → k < i + 1 → Holds r es a φ k)

-- ---- derived operators

abbrev pub Or : Formula → Formula → Formula
Or φ ψ = Not (And (Not φ) (Not ψ))

-- a tautology, in place of the document's ∃x. x ≈ x
abbrev pub True : Formula
True = Not (And Activation (Not Activation))

-- F, O
abbrev pub Eventually : Window → Formula → Formula
Eventually I φ = Until I True φ

abbrev pub Once : Window → Formula → Formula
Once I φ = Since I True φ
