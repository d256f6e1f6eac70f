-- Causes of refusal, in the order in which they are looked for.
use Rattle.std.specs.Prelude.{◌≡◌, ◌⊎◌, Bool, true, false, not, List, [], ◌∷◌, ℕ}
use Rattle.declare.specs.declared.Refusal.{Refusal}
use Rattle.declare.specs.Lists.{all}
use Rattle.declare.specs.Refusals.{number_of}

-- a cause of refusal, and whether it holds
pub record Cause : Type 0 where
  pub refusal : Refusal
  pub holds : Bool

abbrev pub cause : Refusal → Bool → Cause
cause refusal holds = record { refusal = refusal; holds = holds }

-- n is the number of the first cause that holds: it holds, and no earlier one does
unfoldable pub First : List Cause → ℕ → Type 0
First [] n = ⊥
First (c ∷ later) n =
    ((c.holds ≡ true) × (number_of c.refusal ≡ n)) ⊎ ((c.holds ≡ false) × First later n)

unfoldable pub none_holds : List Cause → Bool
none_holds causes = all (λ c. not c.holds) causes
