-- The sentences of document 01, and of document 02 where a card changed one, as statements over
-- positions, beside the definitions that compute. Each record is proved in proofs/Words.
use Rattle.std.specs.Prelude.{◌≡◌, ◌↔◌, ◌⊎◌, true, false, cond, ◌&&◌, List, ◌++◌, ℕ, zero, suc, ◌+◌, ◌≤◌, ◌<◌, eqb, length, None, Some}
use Rattle.declare.specs.Types.{Event, Test, End, Rule, Standing, Idle, Open, Fulfilled, Violated}
use Rattle.declare.specs.Lists.{all}
use Rattle.declare.specs.Comparisons.{passes}
use Rattle.declare.specs.Conditions.{met}
use Rattle.declare.specs.Events.{readings_in_range, well_formed, non_falling_from, non_falling, event_at}
use Rattle.declare.specs.Overall.{is_overall}
use Rattle.declare.specs.Rules.{is_reading}
use Rattle.declare.specs.Suits.{activation_at, between, suits}
use Rattle.declare.specs.Templates.{polarity_of}
use Rattle.declare.specs.Verdicts.{eligible, target, decided, verdict}
use Rattle.declare.specs.Continuations.{Course, horizon, continuation}
use Rattle.declare.specs.Reachability.{satisfiable, can_come, standing}
use Rattle.declare.specs.Standings.{is_fulfilled, is_violated}

-- "times may repeat but never fall"
abbrev pub NeverFall : List Event → Type 0
NeverFall es = (k : ℕ) → 1 ≤ k → k < length es → (event_at es k).time ≤ (event_at es (k + 1)).time

-- "up to but without b, or no end"
abbrev pub Before : ℕ → End → Type 0
Before d None = Unit {0}
Before d (Some b) = d < b

-- "event j suits activation i if it has the target activity, meets the correlation against i's
-- readings, and the later time of the two minus the earlier is at least a and below b"
pub record Suits (r : Rule) (a e : Event) : Type 0 where
  pub has_target_activity : e.activity ≡ r.target
  pub meets_correlation : met r.correlation a e ≡ true
  pub at_least_a : r.window.from ≤ between a.time e.time
  pub below_b : Before (between a.time e.time) r.window.until

-- "no activation of the rule at any position strictly between"
abbrev pub NoActivationBetween : Rule → List Event → ℕ → ℕ → Type 0
NoActivationBetween r es low high = (k : ℕ) → low < k → k < high → activation_at r es k ≡ false

-- "eligible" under a code: j suits i, and P
abbrev pub Eligible : ℕ → Rule → List Event → ℕ → ℕ → Type 0 → Type 0
Eligible code r es i j P =
    r.code ≡ code → (eligible r es i j ≡ true) ↔ (Suits r (event_at es i) (event_at es j) × P)

-- "the twelve templates", each as its line reads; 8 to 12 are eligible as 1, 2, 5, 4, 7 are
pub record Twelve (r : Rule) (es : List Event) (i j : ℕ) : Type 0 where
  pub responded_existence : Eligible 1 r es i j (Unit {0})
  pub response : Eligible 2 r es i j (i ≤ j)
  pub alternate_response : Eligible 3 r es i j ((i < j) × NoActivationBetween r es i j)
  pub chain_response : Eligible 4 r es i j (j ≡ i + 1)
  pub precedence : Eligible 5 r es i j (j ≤ i)
  pub alternate_precedence : Eligible 6 r es i j ((j < i) × NoActivationBetween r es j i)
  pub chain_precedence : Eligible 7 r es i j (j + 1 ≡ i)
  pub not_responded_existence : Eligible 8 r es i j (Unit {0})
  pub not_response : Eligible 9 r es i j (i ≤ j)
  pub not_precedence : Eligible 10 r es i j (j ≤ i)
  pub not_chain_response : Eligible 11 r es i j (j ≡ i + 1)
  pub not_chain_precedence : Eligible 12 r es i j (j + 1 ≡ i)

-- "an eligible j exists"
abbrev pub SomeEligible : Rule → List Event → ℕ → Type 0
SomeEligible r es i = (j : ℕ) × (1 ≤ j) × (j ≤ length es) × (eligible r es i j ≡ true)

abbrev pub NoneEligible : Rule → List Event → ℕ → Type 0
NoneEligible r es i = (j : ℕ) → 1 ≤ j → j ≤ length es → eligible r es i j ≡ false

-- what can be named: an eligible position, or 0 if there is none
abbrev pub MayName : Rule → List Event → ℕ → ℕ → Type 0
MayName r es i zero = NoneEligible r es i
MayName r es i (suc j) = (suc j ≤ length es) × (eligible r es i (suc j) ≡ true)

-- "the latest eligible position at or before the activation; failing that, the first after it"
pub record Names (r : Rule) (es : List Event) (i j : ℕ) : Type 0 where
  pub may : MayName r es i j
  pub latest : j ≤ i → (k : ℕ) → j < k → k ≤ i → k ≤ length es → eligible r es i k ≡ false
  -- none at or before the activation, and none between it and j
  pub first : i < j → (k : ℕ) → 1 ≤ k → k < j → eligible r es i k ≡ false

-- the target that a standing names
unfoldable pub target_in : Standing → ℕ
target_in Idle = 0
target_in Open = 0
target_in (Fulfilled j) = j
target_in (Violated j) = j

-- a standing but for the target that it names
abbrev pub unnamed : Standing → Standing
unnamed Idle = Idle
unnamed Open = Open
unnamed (Fulfilled j) = Fulfilled 0
unnamed (Violated j) = Violated 0

-- "verdicts don't move": with j for the target, in a finished cycle and in a running one
pub record Unmoved (r : Rule) (es : List Event) (h i j : ℕ) : Type 0 where
  pub finished : unnamed (verdict r es i) ≡ unnamed (cond (activation_at r es i) (decided (polarity_of r) j) Idle)
  pub running : unnamed (standing r es h i)
      ≡ unnamed (cond (activation_at r es i) (cond (eqb j 0 && can_come r es h i) Open (decided (polarity_of r) j)) Idle)

-- an activation of a finished cycle: 1 to 7 "are fulfilled if an eligible j exists"; 8 to 12 are
-- "violated if one exists"
pub record Judged (r : Rule) (es : List Event) (i : ℕ) : Type 0 where
  pub fulfilled : 1 ≤ r.code → r.code ≤ 7 → (is_fulfilled (verdict r es i) ≡ true) ↔ SomeEligible r es i
  pub violated : 1 ≤ r.code → r.code ≤ 7 → (is_violated (verdict r es i) ≡ true) ↔ NoneEligible r es i
  pub negative_violated : 8 ≤ r.code → r.code ≤ 12 → (is_violated (verdict r es i) ≡ true) ↔ SomeEligible r es i
  pub negative_fulfilled : 8 ≤ r.code → r.code ≤ 12 → (is_fulfilled (verdict r es i) ≡ true) ↔ NoneEligible r es i
  pub names : Names r es i (target_in (verdict r es i))

-- ---- rules about the cycle as such

-- activity k occurs at position j: its event has the activity, meets the activation condition, and
-- its time is at least a, and below b, after the time of the first event
pub record Occurs (r : Rule) (es : List Event) (k j : ℕ) : Type 0 where
  pub low : 1 ≤ j
  pub high : j ≤ length es
  pub has_activity : (event_at es j).activity ≡ k
  pub meets_condition : met r.condition (event_at es j) (event_at es j) ≡ true
  pub at_least_a : r.window.from ≤ between (event_at es 1).time (event_at es j).time
  pub below_b : Before (between (event_at es 1).time (event_at es j).time) r.window.until

abbrev pub SomeOccurs : Rule → List Event → ℕ → Type 0
SomeOccurs r es k = (j : ℕ) × Occurs r es k j

-- fulfilled under a code if and only if P, else violated
abbrev pub FulfilledIf : ℕ → Rule → List Event → Type 0 → Type 0
FulfilledIf code r es P =
    r.code ≡ code
    → ((is_fulfilled (verdict r es 0) ≡ true) ↔ P) × ((is_violated (verdict r es 0) ≡ true) ↔ (P → ⊥))

-- a finished cycle: existence, absence, choice, exclusive choice, of the activities A and B
pub record Four (r : Rule) (es : List Event) (A B : Type 0) : Type 0 where
  pub existence : FulfilledIf 13 r es A
  pub absence : FulfilledIf 14 r es (A → ⊥)
  pub choice : FulfilledIf 15 r es (A ⊎ B)
  pub exclusive_choice : FulfilledIf 16 r es ((A ⊎ B) × (A × B → ⊥))
  -- which positions can be named: "under 15 and 16, for either activity"
  pub of_one : r.code ≤ 14 → (j : ℕ) → 1 ≤ j → j ≤ length es → (eligible r es 0 j ≡ true) ↔ Occurs r es r.activation j
  pub of_either : 15 ≤ r.code → (j : ℕ) → 1 ≤ j → j ≤ length es → (eligible r es 0 j ≡ true) ↔ (Occurs r es r.activation j ⊎ Occurs r es r.target j)

-- the readings of some event pass all tests
abbrev pub Satisfiable : List Test → Type 0
Satisfiable ts = (e : Event) × (readings_in_range e ≡ true) × (all (passes e) ts ≡ true)

pub record Words : Type 0 where
  pub times : (es : List Event) → (non_falling es ≡ true) ↔ NeverFall es
  pub suited : (r : Rule) (a e : Event) → (suits r a e ≡ true) ↔ Suits r a e
  pub twelve : (r : Rule) (es : List Event) (i j : ℕ) → 1 ≤ i → Twelve r es i j
  -- the target is what is named, and nothing else is
  pub named : (r : Rule) (es : List Event) (i j : ℕ) → Names r es i j ↔ (j ≡ target r es i)
  -- whichever eligible event were named, the earliest say, the standings would be the same
  pub unmoved : (r : Rule) (es : List Event) (h i j : ℕ) → 1 ≤ i → MayName r es i j → Unmoved r es h i j
  pub judged : (r : Rule) (es : List Event) (i : ℕ) → activation_at r es i ≡ true → Judged r es i
  pub four : (r : Rule) (es : List Event) → is_overall r.code ≡ true → Four r es (SomeOccurs r es r.activation) (SomeOccurs r es r.target)
  -- of a cycle whose times do not fall, the continuations are what makes it a longer such cycle, of
  -- well-formed events, none below the last notice
  pub continued : (c : Course) (added : List Event) → non_falling c.events ≡ true
      → continuation (horizon c) added ≡ (non_falling (c.events ++ added) && non_falling_from c.clock added && all well_formed added)
  pub satisfied : (ts : List Test) → all (λ t. is_reading t.reading) ts ≡ true → (satisfiable ts ≡ true) ↔ Satisfiable ts
