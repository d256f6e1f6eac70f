-- Laws of slots, for every kind of value: filling the next one, and what stands in those that are
-- filled.
use mathlib.Core.Path.{◌≡◌, ◌∙◌, ap}
use mathlib.Core.List.{List, [], ◌∷◌, ◌++◌, append_assoc}
use Prim.Native.Nat.{ℕ, suc, ◌+◌, ◌-◌, ◌≤◌, ◌<◌}
use native.Mathlib.Omega.{arith}
use native.Mathlib.Numerals.{add-one}
use lib.ListN.{length, take, set, replicate, length-append, length-replicate, length-set}
use lib.Seq.{length-take-le, take-suc-set, set-append_seam}
use Rattle.declare.specs.Slots.{padded}

module _ {A : Type 0} (room : ℕ) (slot : A) where
  pub padded_more : (xs : List A) (x : A) (n : ℕ) → length xs ≡ n → n < room → set (padded room slot xs) n x ≡ padded room slot (xs ++ (x ∷ []))
  unfolding padded
  padded_more xs x n e l =
      let left = room - length (xs ++ (x ∷ [])) in
      let p : room - length xs ≡ suc left = omega (arith, length-append xs (x ∷ [])) in
      rw (← e, p, append_assoc xs (x ∷ []) (replicate left slot)) (set-append_seam xs slot (replicate left slot) x)

  -- the first count slots are filled, and no others
  pub record Filled (count : ℕ) (slots : List A) : Type 0 where
    pub few : count ≤ room
    pub size : length slots ≡ room
    pub same : slots ≡ padded room slot (take count slots)

  pub filled_none : Filled 0 (replicate room slot)
  unfolding padded
  filled_none =
      let all : room ≡ room - 0 = omega arith in
      record { few = omega arith; size = length-replicate room slot; same = ap (λ (n : ℕ). replicate n slot) all }

  module _ (count : ℕ) (slots : List A) (h : Filled count slots) where
    pub filled_count : length (take count slots) ≡ count
    filled_count = length-take-le count slots (omega (arith, h.few, h.size))

    module _ (x : A) (l : count < room) where
      pub filled_values : take (count + 1) (set slots count x) ≡ take count slots ++ (x ∷ [])
      filled_values = rw (add-one count) (take-suc-set slots count x (omega (arith, h.size)))

      pub filled_more : Filled (count + 1) (set slots count x)
      filled_more =
          record {
            few = omega arith;
            size = length-set slots count x ∙ h.size;
            same = rw filled_values (ap (λ (s : List A). set s count x) h.same ∙ padded_more (take count slots) x count filled_count l);
          }
