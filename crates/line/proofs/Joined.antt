-- Splitting and joining undo each other: joined parts that lack the separator split into the same
-- parts, and parts of a split join to the same bytes.
use mathlib.Core.Path.{◌≡◌, refl, ◌∙◌, ap}
use mathlib.Core.Bool.{Bool, true, false, cond, false≢true}
use mathlib.Core.List.{List, [], ◌∷◌, ◌++◌, append-nil}
use Prim.Native.Nat.{ℕ, ◌<◌}
use native.Mathlib.Omega.{arith}
use borrow.Author.Tests.{eq-eqb, ne_eqb, eqb-true}
use lib.Dec.{eqb}
use Rattle.declare.specs.Lists.{all}
use Rattle.declare.proofs.Booleans.{and_left, and_right}
use Rattle.number.specs.Number.{digit, digits}
use Rattle.number.proofs.Digits.{digit_low}
use Rattle.line.specs.Fields.{onto, split, each_after, joined}
use Rattle.line.proofs.Fields.{parts}

-- ---- bytes that do not stand in a list

-- b does not stand in a list
unfoldable pub lacks : ℕ → List ℕ → Bool
lacks b [] = true
lacks b (x ∷ xs) = cond (eqb x b) false (lacks b xs)

module _ (b x : ℕ) (s : List ℕ) (h : lacks b (x ∷ s) ≡ true) where
  lacks_parts : (eqb x b ≡ false) × (lacks b s ≡ true)
  unfolding lacks
  lacks_parts = go (eqb x b) refl
    where
      go : (t : Bool) → eqb x b ≡ t → (eqb x b ≡ false) × (lacks b s ≡ true)
      go true e = absurd (false≢true (rw e at h))
      go false e = (e, rw e at h)

pub lacks_append : (b : ℕ) (xs ys : List ℕ) → lacks b xs ≡ true → lacks b ys ≡ true → lacks b (xs ++ ys) ≡ true
unfolding lacks
lacks_append b [] ys h l = l
lacks_append b (x ∷ xs) ys h l =
    let p = lacks_parts b x xs h in
    rw p.0 (lacks_append b xs ys p.1 l)

-- digits lack every byte below `0`
pub lacks_digits : (b : ℕ) (xs : List ℕ) → b < 48 → digits xs ≡ true → lacks b xs ≡ true
unfolding lacks digits
lacks_digits b [] h l = refl
lacks_digits b (x ∷ xs) h l =
    rw (ne_eqb x b (λ e. omega (arith, digit_low x (and_left (digit x) (digits xs) l)))) (lacks_digits b xs h (and_right (digit x) (digits xs) l))

-- ---- splitting what was joined

-- a list that lacks b is one part, alone or before a b
split_alone : (b : ℕ) (p : List ℕ) → lacks b p ≡ true → split b p ≡ p ∷ []
unfolding split onto
split_alone b [] h = refl
split_alone b (x ∷ p) h =
    let l = lacks_parts b x p h in
    rw (l.0, split_alone b p l.1)

pub split_before : (b : ℕ) (p s : List ℕ) → lacks b p ≡ true → split b (p ++ (b ∷ s)) ≡ p ∷ split b s
unfolding split onto
split_before b [] s h = rw (eq-eqb b b refl)
split_before b (x ∷ p) s h =
    let l = lacks_parts b x p h in
    rw (l.0, split_before b p s l.1)

all_parts : (b : ℕ) (p : List ℕ) (ps : List (List ℕ)) → all (lacks b) (p ∷ ps) ≡ true → (lacks b p ≡ true) × (all (lacks b) ps ≡ true)
unfolding all
all_parts b p ps h = (and_left (lacks b p) (all (lacks b) ps) h, and_right (lacks b p) (all (lacks b) ps) h)

pub split_joined : (b : ℕ) (p : List ℕ) (ps : List (List ℕ)) → all (lacks b) (p ∷ ps) ≡ true → split b (joined b (p ∷ ps)) ≡ p ∷ ps
unfolding joined each_after
split_joined b p [] h = rw (append-nil p) (split_alone b p (all_parts b p [] h).0)
split_joined b p (q ∷ ps) h =
    let l = all_parts b p (q ∷ ps) h in
    split_before b p (q ++ each_after b ps) l.0 ∙ ap (λ (k : List (List ℕ)). p ∷ k) (split_joined b q ps l.1)

-- joined parts lack a byte that neither they nor the separator is
lacks_each : (b c : ℕ) (ps : List (List ℕ)) → eqb c b ≡ false → all (lacks b) ps ≡ true → lacks b (each_after c ps) ≡ true
unfolding each_after lacks
lacks_each b c [] h l = refl
lacks_each b c (p ∷ ps) h l =
    let w = all_parts b p ps l in
    rw h (lacks_append b p (each_after c ps) w.0 (lacks_each b c ps h w.1))

pub lacks_joined : (b c : ℕ) (ps : List (List ℕ)) → eqb c b ≡ false → all (lacks b) ps ≡ true → lacks b (joined c ps) ≡ true
unfolding joined lacks
lacks_joined b c [] h l = refl
lacks_joined b c (p ∷ ps) h l =
    let w = all_parts b p ps l in
    lacks_append b p (each_after c ps) w.0 (lacks_each b c ps h w.1)

-- ---- joining what was split

each_split : (b : ℕ) (s : List ℕ) → each_after b (split b s) ≡ b ∷ joined b (split b s)
unfolding each_after joined
each_split b s = rw (parts b s)

onto_joined : (b x : ℕ) (s : List ℕ) → joined b (onto x (split b s)) ≡ x ∷ joined b (split b s)
unfolding joined onto
onto_joined b x s = rw (parts b s)

pub joined_split : (b : ℕ) (s : List ℕ) → joined b (split b s) ≡ s
unfolding split joined each_after
joined_split b [] = refl
joined_split b (x ∷ s) = go (eqb x b) refl (joined_split b s)
  where
    go : (t : Bool) → eqb x b ≡ t → joined b (split b s) ≡ s → joined b (split b (x ∷ s)) ≡ x ∷ s
    go true e h = rw e (each_split b s ∙ rw (h, eqb-true x b e))
    go false e h = rw e (onto_joined b x s ∙ ap (λ (k : List ℕ). x ∷ k) h)
