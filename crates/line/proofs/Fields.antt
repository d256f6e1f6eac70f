-- Laws of parts: a list of bytes by what stands at an index, its first part and what follows it,
-- and joined parts.
use mathlib.Core.Path.{◌≡◌, refl, ◌∙◌, ap}
use mathlib.Core.Bool.{Bool, true, false, cond}
use mathlib.Core.List.{List, [], ◌∷◌}
use Prim.Native.Nat.{ℕ, suc, ◌+◌, ◌-◌, ◌≤◌, ◌<◌}
use native.Mathlib.Omega.{arith}
use native.Mathlib.Numerals.{add-one}
use borrow.Author.Tests.{eq-eqb, ne_eqb, lt-ltb}
use lib.Dec.{eqb, ltb, leb-suc-suc}
use lib.ListN.{length, get_or, take, drop, length-drop}
use lib.Seq.{drop-cons, take_all}
use Rattle.line.specs.Fields.{index_of, before, following, count_of, onto, split}

-- the part of a slice from a on, as the borrow checker states it
pub part_rest : (s : List ℕ) (a : ℕ) → take (length s - a) (drop a s) ≡ drop a s
part_rest s a = take_all (length s - a) (drop a s) (rw (length-drop a s) (omega arith))

-- ---- by the first byte

module _ (b x : ℕ) (s : List ℕ) where
  index_first : eqb x b ≡ true → index_of b (x ∷ s) ≡ 0
  unfolding index_of
  index_first e = rw e

  index_later : eqb x b ≡ false → index_of b (x ∷ s) ≡ suc (index_of b s)
  unfolding index_of
  index_later e = rw e

  before_first : eqb x b ≡ true → before b (x ∷ s) ≡ []
  unfolding before
  before_first e = rw e

  before_later : eqb x b ≡ false → before b (x ∷ s) ≡ x ∷ before b s
  unfolding before
  before_later e = rw e

  split_first : eqb x b ≡ true → split b (x ∷ s) ≡ [] ∷ split b s
  unfolding split
  split_first e = rw e

  split_later : eqb x b ≡ false → split b (x ∷ s) ≡ onto x (split b s)
  unfolding split
  split_later e = rw e

  count_first : eqb x b ≡ true → count_of b (x ∷ s) ≡ suc (count_of b s)
  unfolding count_of
  count_first e = rw e

  count_later : eqb x b ≡ false → count_of b (x ∷ s) ≡ count_of b s
  unfolding count_of
  count_later e = rw e

-- ---- by what stands at an index

module _ (b : ℕ) (s : List ℕ) (i : ℕ) (h : i < length s) where
  pub index_here : get_or s i 0 ≡ b → index_of b (drop i s) ≡ 0
  index_here e = rw (drop-cons s i 0 h) (index_first b (get_or s i 0) (drop (suc i) s) (eq-eqb (get_or s i 0) b e))

  pub index_next : (get_or s i 0 ≡ b → ⊥) → index_of b (drop i s) ≡ 1 + index_of b (drop (i + 1) s)
  index_next e = rw (drop-cons s i 0 h, index_later b (get_or s i 0) (drop (suc i) s) (ne_eqb (get_or s i 0) b e), add-one) (omega arith)

  pub before_here : get_or s i 0 ≡ b → before b (drop i s) ≡ []
  before_here e = rw (drop-cons s i 0 h) (before_first b (get_or s i 0) (drop (suc i) s) (eq-eqb (get_or s i 0) b e))

  pub before_next : (get_or s i 0 ≡ b → ⊥) → before b (drop i s) ≡ get_or s i 0 ∷ before b (drop (i + 1) s)
  before_next e = rw (drop-cons s i 0 h, add-one) (before_later b (get_or s i 0) (drop (suc i) s) (ne_eqb (get_or s i 0) b e))

-- of the separators b before the end e
module _ (e b : ℕ) (s : List ℕ) (i : ℕ) (h : i < length s) (more : get_or s i 0 ≡ e → ⊥) where
  pub count_here : get_or s i 0 ≡ b → count_of b (before e (drop i s)) ≡ 1 + count_of b (before e (drop (i + 1) s))
  count_here p =
      rw (before_next e s i h more, count_first b (get_or s i 0) (before e (drop (i + 1) s)) (eq-eqb (get_or s i 0) b p)) (omega arith)

  pub count_next : (get_or s i 0 ≡ b → ⊥) → count_of b (before e (drop i s)) ≡ count_of b (before e (drop (i + 1) s))
  count_next p =
      rw (before_next e s i h more) (count_later b (get_or s i 0) (before e (drop (i + 1) s)) (ne_eqb (get_or s i 0) b p))

-- ---- the first part, and what follows it

pub index_le : (b : ℕ) (s : List ℕ) → index_of b s ≤ length s
unfolding index_of
index_le b [] = omega arith
index_le b (x ∷ s) = go (eqb x b) refl (index_le b s)
  where
    go : (t : Bool) → eqb x b ≡ t → index_of b s ≤ length s → index_of b (x ∷ s) ≤ length (x ∷ s)
    go true e h = rw e (omega arith)
    go false e h = rw e (omega arith)

-- as a part of the slice
pub before_take : (b : ℕ) (s : List ℕ) → before b s ≡ take (index_of b s) s
unfolding before index_of
before_take b [] = refl
before_take b (x ∷ s) = go (eqb x b) refl (before_take b s)
  where
    go : (t : Bool) → eqb x b ≡ t → before b s ≡ take (index_of b s) s → before b (x ∷ s) ≡ take (index_of b (x ∷ s)) (x ∷ s)
    go true e h = rw e
    go false e h = rw e (ap (λ (k : List ℕ). x ∷ k) h)

following_first : (b x : ℕ) (s : List ℕ) → eqb x b ≡ true → following b (x ∷ s) ≡ s
unfolding following
following_first b x s e = rw (index_first b x s e)

following_later : (b x : ℕ) (s : List ℕ) → eqb x b ≡ false → following b (x ∷ s) ≡ following b s
unfolding following
following_later b x s e = rw (index_later b x s e, add-one, add-one)

-- the bridge between index and list
pub parts : (b : ℕ) (s : List ℕ) → split b s ≡ before b s ∷ cond (ltb (index_of b s) (length s)) (split b (following b s)) []
unfolding before index_of split onto
parts b [] = refl
parts b (x ∷ s) = go (eqb x b) refl (parts b s)
  where
    go : (t : Bool) → eqb x b ≡ t → split b s ≡ before b s ∷ cond (ltb (index_of b s) (length s)) (split b (following b s)) [] → split b (x ∷ s) ≡ before b (x ∷ s) ∷ cond (ltb (index_of b (x ∷ s)) (length (x ∷ s))) (split b (following b (x ∷ s))) []
    go true e h = simp (following_first b x s e, e, lt-ltb 0 (suc (length s)) (omega arith))
    go false e h = simp (following_later b x s e, e, leb-suc-suc) (ap (onto x) h)

length_onto : (x : ℕ) (l : List (List ℕ)) → length (onto x l) ≡ length l
unfolding onto
length_onto x [] = refl
length_onto x (p ∷ l) = refl

onto_cons : (x : ℕ) (p : List ℕ) (l : List (List ℕ)) → onto x (p ∷ l) ≡ (x ∷ p) ∷ l
unfolding onto
onto_cons x p l = refl

-- there is one part more than separators
pub count_parts : (b : ℕ) (s : List ℕ) → length (split b s) ≡ suc (count_of b s)
unfolding split count_of
count_parts b [] = refl
count_parts b (x ∷ s) = go (eqb x b) refl (count_parts b s)
  where
    go : (t : Bool) → eqb x b ≡ t → length (split b s) ≡ suc (count_of b s) → length (split b (x ∷ s)) ≡ suc (count_of b (x ∷ s))
    go true e h = rw e (ap suc h)
    go false e h = rw (e, length_onto x (split b s)) h

-- ---- the fields of a line, of which what follows it is not cut off

-- a first field that is not the last: b stands before the line's end e
pub first_field : (e b : ℕ) (s : List ℕ) → 1 < length (split b (before e s)) → split b (before e s) ≡ before b s ∷ split b (before e (following b s))
unfolding split before
first_field e b [] h = absurd (omega arith)
first_field e b (x ∷ s) h = go (eqb x e) (eqb x b) refl refl h (first_field e b s)
  where
    go : (t u : Bool) → eqb x e ≡ t → eqb x b ≡ u → 1 < length (split b (before e (x ∷ s))) → (1 < length (split b (before e s)) → split b (before e s) ≡ before b s ∷ split b (before e (following b s))) → split b (before e (x ∷ s)) ≡ before b (x ∷ s) ∷ split b (before e (following b (x ∷ s)))
    go true u p q l f = absurd (omega (arith, rw p at l))
    go false true p q l f = rw (following_first b x s q, p, q)
    go false false p q l f =
        let g : 1 < length (split b (before e s)) = rw (p, q, length_onto x (split b (before e s))) at l in
        rw (following_later b x s q, p, q) (ap (onto x) (f g) ∙ onto_cons x _ _)

-- the last field is all of the line
pub last_field : (b : ℕ) (s : List ℕ) → length (split b s) ≡ 1 → split b s ≡ s ∷ []
unfolding split
last_field b [] h = refl
last_field b (x ∷ s) h = go (eqb x b) refl (last_field b s)
  where
    go : (t : Bool) → eqb x b ≡ t → (length (split b s) ≡ 1 → split b s ≡ s ∷ []) → split b (x ∷ s) ≡ (x ∷ s) ∷ []
    go true p f = absurd (omega (arith, count_parts b s, rw p at h))
    go false p f =
        let g : length (split b s) ≡ 1 = rw (p, length_onto x (split b s)) at h in
        rw (p, f g) (onto_cons x s [])
