-- Conditions: a condition's slots are its list of comparisons; and comparisons one after the other.
use mathlib.Core.Path.{◌≡◌, refl}
use mathlib.Core.Bool.{Bool}
use mathlib.Core.Logic.{inl, inr}
use mathlib.Core.List.{List, [], ◌∷◌, ◌++◌}
use Prim.Native.Nat.{ℕ, suc, ◌+◌, ◌≤◌, ◌<◌}
use native.Mathlib.Omega.{arith}
use borrow.Author.Tests.{lt-ltb, le-ltb}
use denote.Bor.{Bor}
use lib.ListN.{length, length-take}
use Rattle.std.specs.Prelude.{Option, None, Some, ◌⊎◌}
use Rattle.std.specs.Slice.{IsGetRangeResult}
use Rattle.declare.specs.Conditions.{comparisons_of}
use Rattle.line.specs.Fields.{index_of, before, following, split}
use Rattle.line.proofs.Fields.{parts, part_rest}
use Rattle.declare.specs.Answers.{accepted, refused, ◌>>=◌, ◌>>◌, require}
use Rattle.rule_text.specs.Types.{Comparison, Condition}
use Rattle.rule_text.specs.Comparisons.{comparison_field}
use Rattle.rule_text.specs.Conditions.{comma, comparisons_after, condition_of}

-- ---- slots

pub comparisons_slots : (cs : List Comparison) → length cs ≤ 4 → comparisons_of (condition_of cs) ≡ cs
unfolding comparisons_of condition_of
comparisons_slots [] h = refl
comparisons_slots (x ∷ []) h = refl
comparisons_slots (x ∷ y ∷ []) h = refl
comparisons_slots (x ∷ y ∷ z ∷ []) h = refl
comparisons_slots (x ∷ y ∷ z ∷ w ∷ []) h = refl
comparisons_slots (x ∷ y ∷ z ∷ w ∷ v ∷ cs) h = absurd (omega arith)

pub comparisons_few : (c : Condition) → length (comparisons_of c) ≤ 4
unfolding comparisons_of
comparisons_few c =
    rw (length-take c.count (c.first ∷ c.second ∷ c.third ∷ c.fourth ∷ [])) (omega arith)

-- ---- one comparison after the other

-- the fields of what is left of a condition
unfoldable pub fields_left : Option (Bor (List ℕ)) → List (List ℕ)
fields_left None = []
fields_left (Some part) = split comma part.now

-- one more than the bytes of what is left, so that an empty field counts too
unfoldable pub bytes_left : Option (Bor (List ℕ)) → ℕ
bytes_left None = 0
bytes_left (Some part) = suc (length part.now)

-- what is left behind the first field of a part
module _ (part : List ℕ) (n : ℕ) (found : index_of comma part ≡ n) where
  pub fields_next : (rest : Option (Bor (List ℕ))) → IsGetRangeResult part (n + 1) (length part) rest → split comma part ≡ before comma part ∷ fields_left rest
  unfolding fields_left following
  fields_next None h = rw (parts comma part, found, le-ltb n (length part) (end h.0))
    where
      end : (length part < n + 1) ⊎ (length part < length part) → length part ≤ n
      end (inl l) = omega arith
      end (inr l) = omega arith
  fields_next (Some x) h =
      rw (parts comma part, found, lt-ltb n (length part) (omega (arith, h.0.0)), h.0.2, part_rest part (n + 1))

  pub bytes_next : (rest : Option (Bor (List ℕ))) → IsGetRangeResult part (n + 1) (length part) rest → bytes_left rest ≤ length part
  unfolding bytes_left
  bytes_next None h = omega arith
  bytes_next (Some x) h = omega (arith, h.0.3)

module _ (correlation : Bool) (above : List Comparison) (field : List ℕ) (more : List (List ℕ)) where
  pub after_refused : (n : ℕ) → comparison_field correlation field ≡ refused n → comparisons_after correlation above (field ∷ more) ≡ refused n
  unfolding comparisons_after ◌>>=◌
  after_refused n h = rw h

  module _ (c : Comparison) (h : comparison_field correlation field ≡ accepted c) where
    pub after_full : 4 ≤ length above → comparisons_after correlation above (field ∷ more) ≡ refused 17
    unfolding comparisons_after ◌>>=◌ ◌>>◌ require
    after_full l = rw (h, le-ltb (length above) 4 l)

    pub after_next : length above < 4 → comparisons_after correlation above (field ∷ more) ≡ comparisons_after correlation (above ++ (c ∷ [])) more
    unfolding comparisons_after ◌>>=◌ ◌>>◌ require
    after_next l = rw (h, lt-ltb (length above) 4 l)
