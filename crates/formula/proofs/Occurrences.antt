-- What occurs in a cycle, and the formula that says so at the first position: F finds what lies
-- inside the window from the first event, since times do not fall; and the connectives of the
-- formula are those of the test.
use mathlib.Core.Path.{◌≡◌, refl}
use mathlib.Core.Logic.{◌↔◌}
use mathlib.Core.Bool.{Bool, true, false, not, ◌&&◌, ◌||◌}
use mathlib.Core.List.{List}
use Prim.Native.Nat.{ℕ, ◌-◌, ◌≤◌}
use native.Mathlib.Omega.{arith}
use lib.ListN.{length}
use Rattle.declare.specs.declared.Event.{Event}
use Rattle.declare.specs.declared.Rule.{Rule}
use Rattle.declare.specs.declared.Overall.{Overall}
use Rattle.declare.specs.declared.Overall.TheVariants.{Existence, Absence, Choice, ExclusiveChoice}
use Rattle.declare.specs.Events.{non_falling, event_at, first_time}
use Rattle.declare.specs.Overall.{overall_of, formula}
use Rattle.declare.specs.Suits.{occurs, within, between}
use Rattle.declare.specs.Verdicts.{occurs_at, seen, formula_of}
use Rattle.declare.proofs.Booleans.{and₂, both, not_says, and_says}
use Rattle.declare.proofs.Extension.{first_time_lem}
use Rattle.declare.proofs.Occurrences.{seen_at, seen_some}
use Rattle.formula.specs.Formula.{Formula, Occurs, Eventually, time_at, Holds}
use Rattle.formula.proofs.Shapes.{overall_shape, overall}
use Rattle.formula.proofs.Reaches.{in_order, truth}

-- ---- tests and what they say

-- an or as the formulas have it
or_says : {P Q : Type 0} (s t : Bool) → ((s ≡ true) ↔ P) → ((t ≡ true) ↔ Q) → ((s || t) ≡ true) ↔ ((P → ⊥) × (Q → ⊥) → ⊥)
or_says s t f g = rw (by_and s t) (not_says (not s && not t) (and_says (not s) (not t) (not_says s f) (not_says t g)))
  where
    by_and : (s t : Bool) → (s || t) ≡ not (not s && not t)
    by_and true t = refl
    by_and false true = refl
    by_and false false = refl

-- ---- at the first position

-- a is the activation judged; these formulas do not look at it
module _ (r : Rule) (es : List Event) (falls : non_falling es ≡ true) (a : Event) where
  abbrev AtFirst : Formula → Type 0
  AtFirst φ = Holds r es a φ 1

  apart_first : (j : ℕ) → 1 ≤ j → j ≤ length es → between (first_time 0 es) (event_at es j).time ≡ time_at es j - time_at es 1
  apart_first j l h = rw (first_time_lem es (omega arith)) (unfold time_at in omega (arith, in_order es 1 j falls (omega arith) l h))

  eventually_holds : (k : ℕ) → (seen r es k ≡ true) ↔ AtFirst (Eventually r.window (Occurs k))
  unfolding Holds occurs_at
  eventually_holds k = (
    (λ h.
        let s = seen_at r es k h in
        let p : (occurs r k (event_at es s.0) ≡ true) × (within r.window (between (first_time 0 es) (event_at es s.0).time) ≡ true) = and₂ s.3 in
        (s.0, s.1, s.2, rw (apart_first s.0 s.1 s.2) at p.1, p.0, λ m _ _. truth r es a m)),
    (λ t. seen_some r es k t.0 t.1 t.2 (both t.4 (rw (apart_first t.0 t.1 t.2) t.3))),
  )

  shape_says : (s t : Bool) (α β : Formula) → ((s ≡ true) ↔ AtFirst α) → ((t ≡ true) ↔ AtFirst β) → (o : Overall) → (formula o s t ≡ true) ↔ AtFirst (overall_shape α β o)
  unfolding Holds
  shape_says s t α β f g Existence = f
  shape_says s t α β f g Absence = not_says s f
  shape_says s t α β f g Choice = or_says s t f g
  shape_says s t α β f g ExclusiveChoice =
      and_says (s || t) (not (s && t)) (or_says s t f g) (not_says (s && t) (and_says s t f g))

  pub formula_holds : (formula_of r es ≡ true) ↔ AtFirst (overall r.window r.activation r.target (overall_of r.code))
  unfolding formula_of
  formula_holds =
      shape_says (seen r es r.activation) (seen r es r.target) (Eventually r.window (Occurs r.activation)) (Eventually r.window (Occurs r.target))
      (eventually_holds r.activation) (eventually_holds r.target) (overall_of r.code)
