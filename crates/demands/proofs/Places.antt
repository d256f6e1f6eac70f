-- What stands at a place of a list, of one list after another, and of lists one after another.
use mathlib.Core.Path.{◌≡◌, refl, sym, subst}
use mathlib.Core.Logic.{◌⊎◌, inl, inr}
use mathlib.Core.List.{List, [], ◌∷◌, ◌++◌, map}
use Prim.Native.Nat.{ℕ, zero, suc, ◌+◌, ◌<◌}
use native.Mathlib.Nat.{zero-add}
use native.Mathlib.Omega.{arith}
use lib.ListN.{length, get_or}

-- x stands at place p, from 0 on
pub data At {A : Type 0} : List A → ℕ → A → Type 0 where
  here : {x : A} {xs : List A} → At (x ∷ xs) 0 x
  there : {x y : A} {xs : List A} {p : ℕ} → At xs p x → At (y ∷ xs) (suc p) x

pub at_left : {A : Type 0} {xs : List A} {p : ℕ} {x : A} (ys : List A) → At xs p x → At (xs ++ ys) p x
at_left ys here = here
at_left ys (there a) = there (at_left ys a)

pub at_right : {A : Type 0} {ys : List A} {p : ℕ} {x : A} (xs : List A) → At ys p x → At (xs ++ ys) (length xs + p) x
at_right {ys = ys} {p} {x} [] a = subst (λ (q : ℕ). At ys q x) (sym (zero-add p)) a
at_right {ys = ys} {p} {x} (y ∷ xs) a =
    let e : suc (length xs + p) ≡ suc (length xs) + p = omega arith in
    subst (λ (q : ℕ). At (y ∷ xs ++ ys) q x) e (there (at_right xs a))

-- in the second list, past the first
pub record Past {A : Type 0} (xs ys : List A) (p : ℕ) (x : A) : Type 0 where
  pub after : ℕ
  pub place : p ≡ length xs + after
  pub stands : At ys after x

-- in the first list, or past it in the second
pub at_either : {A : Type 0} {ys : List A} {p : ℕ} {x : A} (xs : List A) → At (xs ++ ys) p x → At xs p x ⊎ Past xs ys p x
at_either {p = p} [] a = inr (record { after = p; place = sym (zero-add p); stands = a })
at_either (y ∷ xs) here = inl here
at_either {ys = ys} {x = x} (y ∷ xs) (there {p = p} a) = go (at_either xs a)
  where
    go : At xs p x ⊎ Past xs ys p x → At (y ∷ xs) (suc p) x ⊎ Past (y ∷ xs) ys (suc p) x
    go (inl b) = inl (there b)
    go (inr b) = inr (record { after = b.after; place = (let e = b.place in omega arith); stands = b.stands })

pub at_below : {A : Type 0} {xs : List A} {p : ℕ} {x : A} → At xs p x → p < length xs
at_below here = omega arith
at_below (there a) = let h = at_below a in omega arith

pub at_is : {A : Type 0} {xs : List A} {p : ℕ} {x : A} (d : A) → At xs p x → get_or xs p d ≡ x
at_is d here = refl
at_is d (there a) = at_is d a

pub at_some : {A : Type 0} (xs : List A) (p : ℕ) → p < length xs → (x : A) × At xs p x
at_some [] p h = absurd (omega arith)
at_some (x ∷ xs) zero h = (x, here)
at_some (y ∷ xs) (suc p) h = let a = at_some xs p (omega arith) in (a.0, there a.1)

pub at_map : {A B : Type 0} {xs : List A} {p : ℕ} {x : A} (f : A → B) → At xs p x → At (map f xs) p (f x)
at_map f here = here
at_map f (there a) = there (at_map f a)

pub at_none : {A : Type 0} {p : ℕ} {x : A} → At [] p x → ⊥
at_none a = let h = at_below a in omega arith

pub at_single : {A : Type 0} {x y : A} {p : ℕ} → At (x ∷ []) p y → x ≡ y
at_single here = refl
at_single (there a) = absurd (at_none a)

pub same_first : {A : Type 0} {x y : A} → x ∷ [] ≡ y ∷ [] → x ≡ y
same_first e = cc
