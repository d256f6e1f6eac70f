-- From a standing to the answer of the call standing that gives it.
use mathlib.Core.Path.{◌≡◌, refl, sym, ap, ◌∙◌}
use mathlib.Core.Logic.{◌↔◌}
use mathlib.Core.Bool.{true, false≢true}
use Prim.Native.Nat.{ℕ}
use Rattle.declare.specs.declared.Standing.{Standing}
use Rattle.declare.specs.declared.Standing.TheVariants.{Idle, Open, Fulfilled, Violated}
use Rattle.declare.specs.Standings.{is_fulfilled, is_violated}
use Rattle.run.specs.declared.Run.{Run}
use Rattle.declare.specs.Answers.{accepted}
use Rattle.declare.proofs.Answers.{of_of}
use Rattle.run.specs.Queries.{standing_of}
use Rattle.demands.specs.Demand2.{StandsFulfilled, StandsViolated}

fulfilled_by_lem : (s : Standing) → is_fulfilled s ≡ true → (j : ℕ) × (s ≡ Fulfilled j)
fulfilled_by_lem Idle h = absurd (false≢true h)
fulfilled_by_lem Open h = absurd (false≢true h)
fulfilled_by_lem (Fulfilled j) h = (j, refl)
fulfilled_by_lem (Violated j) h = absurd (false≢true h)

violated_by_lem : (s : Standing) → is_violated s ≡ true → (j : ℕ) × (s ≡ Violated j)
violated_by_lem Idle h = absurd (false≢true h)
violated_by_lem Open h = absurd (false≢true h)
violated_by_lem (Fulfilled j) h = absurd (false≢true h)
violated_by_lem (Violated j) h = (j, refl)

module _ (r : Run) (k i : ℕ) (s : Standing) (answer : standing_of r k i ≡ accepted s) where
  pub stands_as : (u : Standing) → standing_of r k i ≡ accepted u → s ≡ u
  stands_as u e = of_of (sym answer ∙ e)

  pub stands_fulfilled : (P : Type 0) → ((is_fulfilled s ≡ true) ↔ P) → StandsFulfilled r k i ↔ P
  stands_fulfilled P (to, back) = (
    (λ f. to (ap is_fulfilled (stands_as (Fulfilled f.0) f.1))),
    (λ p. (let f = fulfilled_by_lem s (back p) in (f.0, answer ∙ ap accepted f.1))),
  )

  pub stands_violated : (P : Type 0) → ((is_violated s ≡ true) ↔ P) → StandsViolated r k i ↔ P
  stands_violated P (to, back) = (
    (λ f. to (ap is_violated (stands_as (Violated f.0) f.1))),
    (λ p. (let f = violated_by_lem s (back p) in (f.0, answer ∙ ap accepted f.1))),
  )

  pub stands_so : (u : Standing) (P : Type 0) → ((s ≡ u) ↔ P) → (standing_of r k i ≡ accepted u) ↔ P
  stands_so u P (to, back) = ((λ e. to (stands_as u e)), (λ p. answer ∙ ap accepted (back p)))
