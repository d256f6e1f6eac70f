-- Examples that can be read: a quoted text, and what its bytes give.
use mathlib.Core.Path.{◌≡◌}
use mathlib.Core.List as list
use Prim.Native.Nat.{ℕ, zero, suc}
use Prim.Native.Char.{code}
use Prim.Native.String.{String, [], ◌∷◌}

abbrev pub bytes : String → list.List ℕ
bytes [] = list.[]
bytes (c ∷ s) = list.◌∷◌ (code c) (bytes s)

-- a line n times
abbrev pub repeated : ℕ → String → list.List ℕ
repeated zero line = list.[]
repeated (suc n) line = list.◌++◌ (bytes line) (repeated n line)

pub record Case (A : Type 0) : Type 0 where
  pub text : String
  pub answer : A

infix 80 ◌gives◌
abbrev pub ◌gives◌ : {A : Type 0} → String → A → Case A
◌gives◌ s a = record { text = s; answer = a }

-- the definition gives each case its answer
abbrev pub Checked : {A : Type 0} → (list.List ℕ → A) → list.List (Case A) → Type 0
Checked {A} read cases = list.map (λ (c : Case A). read (bytes c.text)) cases ≡ list.map (λ (c : Case A). c.answer) cases
