-- Causes looked for in order: the first that holds is told, and if none holds the answer is a
-- value. Each check of a `do` block is one cause, or the causes of a field: so the causes of a
-- block are read off it check by check.
use mathlib.Core.Path.{◌≡◌, refl, sym, ap, ◌∙◌}
use mathlib.Core.Logic.{◌↔◌, ◌⊎◌, inl, inr}
use mathlib.Core.Bool.{Bool, true, false, not, ◌&&◌, false≢true}
use mathlib.Core.List.{List, [], ◌∷◌, ◌++◌}
use Prim.Native.Nat.{ℕ}
use Rattle.declare.specs.declared.Refusal.{Refusal}
use Rattle.declare.specs.Lists.{all}
use Rattle.declare.specs.Refusals.{number_of}
use Rattle.declare.specs.Answers.{Answer, accepted, refused, ◌>>=◌, ◌>>◌, require}
use Rattle.declare.proofs.Answers.{no_of}
use Rattle.demands.specs.Causes.{Cause, cause, First, none_holds}

unfoldable pub in_order : List Cause → Answer (Unit {0})
in_order [] = accepted tt
in_order (c ∷ later) = do
  require (not c.holds) (number_of c.refusal)
  in_order later

-- an answer without its value
unfoldable pub checked : {A : Type 0} → Answer A → Answer (Unit {0})
checked (accepted a) = accepted tt
checked (refused n) = refused n

-- the answer has these causes
abbrev pub Has : {A : Type 0} → Answer A → List Cause → Type 0
Has x causes = checked x ≡ in_order causes

-- ---- check by check

pub has_none : {A : Type 0} (a : A) → Has (accepted a) []
unfolding checked in_order
has_none a = refl

pub has_one : {B : Type 0} (test : Bool) (refusal : Refusal) (n : ℕ) (x : Answer B) (later : List Cause) → number_of refusal ≡ n → Has x later → Has (require test n >> x) (cause refusal (not test) ∷ later)
unfolding checked in_order require ◌>>◌
has_one true refusal n x later r h = h
has_one false refusal n x later r h = ap refused (sym r)

pub has_unless : {B : Type 0} (holds : Bool) (refusal : Refusal) (n : ℕ) (x : Answer B) (later : List Cause) → number_of refusal ≡ n → Has x later → Has (require (not holds) n >> x) (cause refusal holds ∷ later)
unfolding checked in_order require ◌>>◌
has_unless true refusal n x later r h = ap refused (sym r)
has_unless false refusal n x later r h = h

pub has_only : (holds : Bool) (refusal : Refusal) (n : ℕ) → number_of refusal ≡ n → Has (require (not holds) n) (cause refusal holds ∷ [])
unfolding checked in_order require ◌>>◌
has_only true refusal n r = ap refused (sym r)
has_only false refusal n r = refl

in_order_append : (causes later : List Cause) → in_order (causes ++ later) ≡ (in_order causes >> in_order later)
unfolding in_order ◌>>◌
in_order_append [] later = refl
in_order_append (c ∷ causes) later = go (not c.holds) (in_order_append causes later)
  where
    go : (t : Bool) → in_order (causes ++ later) ≡ (in_order causes >> in_order later) → (require t (number_of c.refusal) >> in_order (causes ++ later)) ≡ ((require t (number_of c.refusal) >> in_order causes) >> in_order later)
    go true e = unfold require ◌>>◌ in e
    go false e = unfold require ◌>>◌ in refl

pub has_then : {A B : Type 0} (x : Answer A) (f : A → Answer B) (causes later : List Cause) → Has x causes → ((a : A) → x ≡ accepted a → Has (f a) later) → Has (x >>= f) (causes ++ later)
unfolding checked ◌>>=◌ ◌>>◌
has_then (accepted a) f causes later h more = more a refl ∙ ap (λ (y : Answer (Unit {0})). y >> in_order later) h ∙ sym (in_order_append causes later)
has_then (refused n) f causes later h more = ap (λ (y : Answer (Unit {0})). y >> in_order later) h ∙ sym (in_order_append causes later)

-- a block whose checks give no value
pub has_after : {B : Type 0} (x : Answer (Unit {0})) (y : Answer B) (causes later : List Cause) → Has x causes → Has y later → Has (x >> y) (causes ++ later)
unfolding checked ◌>>◌
has_after (accepted u) y causes later h k = k ∙ ap (λ (z : Answer (Unit {0})). z >> in_order later) h ∙ sym (in_order_append causes later)
has_after (refused n) y causes later h k = ap (λ (z : Answer (Unit {0})). z >> in_order later) h ∙ sym (in_order_append causes later)

-- ---- what the causes say of the answer

pub same : {A : Type 0} {m n : ℕ} → ◌≡◌ {A = Answer A} (refused m) (refused n) → m ≡ n
same e = cc

to_first : (causes : List Cause) (n : ℕ) → in_order causes ≡ refused n → First causes n
unfolding in_order First
to_first [] n e = absurd (no_of (sym e))
to_first (c ∷ later) n e = go c.holds refl (to_first later n) e
  where
    go : (h : Bool) → c.holds ≡ h → (in_order later ≡ refused n → First later n) → (require (not h) (number_of c.refusal) >> in_order later) ≡ refused n → ((c.holds ≡ true) × (number_of c.refusal ≡ n)) ⊎ ((c.holds ≡ false) × First later n)
    go true q more p = unfold require ◌>>◌ in inl (q, same p)
    go false q more p = unfold require ◌>>◌ in inr (q, more p)

from_first : (causes : List Cause) (n : ℕ) → First causes n → in_order causes ≡ refused n
unfolding in_order First require ◌>>◌
from_first [] n f = absurd f
from_first (c ∷ later) n (inl (h, e)) = rw h (ap refused e)
from_first (c ∷ later) n (inr (h, f)) = rw h (from_first later n f)

to_none : (causes : List Cause) → in_order causes ≡ accepted tt → none_holds causes ≡ true
unfolding in_order none_holds all
to_none [] e = refl
to_none (c ∷ later) e = go c.holds (to_none later) e
  where
    go : (h : Bool) → (in_order later ≡ accepted tt → none_holds later ≡ true) → (require (not h) (number_of c.refusal) >> in_order later) ≡ accepted tt → (not h && none_holds later) ≡ true
    go true more p = unfold require ◌>>◌ in absurd (no_of p)
    go false more p = unfold require ◌>>◌ in more p

from_none : (causes : List Cause) → none_holds causes ≡ true → in_order causes ≡ accepted tt
unfolding in_order none_holds all
from_none [] e = refl
from_none (c ∷ later) e = go c.holds (from_none later) e
  where
    go : (h : Bool) → (none_holds later ≡ true → in_order later ≡ accepted tt) → (not h && none_holds later) ≡ true → (require (not h) (number_of c.refusal) >> in_order later) ≡ accepted tt
    go true more p = absurd (false≢true p)
    go false more p = unfold require ◌>>◌ in more p

checked_refused : {A : Type 0} (x : Answer A) (n : ℕ) → checked x ≡ refused n → x ≡ refused n
unfolding checked
checked_refused (accepted a) n e = absurd (no_of (sym e))
checked_refused (refused m) n e = ap refused (same e)

checked_accepted : {A : Type 0} (x : Answer A) → checked x ≡ accepted tt → (a : A) × (x ≡ accepted a)
unfolding checked
checked_accepted (accepted a) e = (a, refl)
checked_accepted (refused m) e = absurd (no_of e)

module _ {A : Type 0} (x : Answer A) (causes : List Cause) (has : Has x causes) where
  -- refused with n exactly if n is the number of the first cause that holds
  pub refuses_first : (n : ℕ) → (x ≡ refused n) ↔ First causes n
  unfolding checked
  refuses_first n = (
    (λ e. to_first causes n (sym has ∙ ap checked e)),
    (λ f. checked_refused x n (has ∙ from_first causes n f)),
  )

  -- accepted exactly if none holds
  pub accepts_none : ((a : A) × (x ≡ accepted a)) ↔ (none_holds causes ≡ true)
  unfolding checked
  accepts_none = (
    (λ p. to_none causes (sym has ∙ ap checked p.1)),
    (λ e. checked_accepted x (has ∙ from_none causes e)),
  )

-- not both: a first cause, and none
pub first_none : (causes : List Cause) (n : ℕ) → First causes n → none_holds causes ≡ true → ⊥
first_none causes n f e = no_of (sym (from_first causes n f) ∙ from_none causes e)
