-- Laws of answers: what a chain of checks that gave a value says of each check, and what stands
-- after a call.
use mathlib.Core.Path.{◌≡◌, refl}
use mathlib.Core.Bool.{Bool, true, false, cond}
use Prim.Native.Nat.{ℕ}
use native.Mathlib.Omega.{arith}
use Rattle.declare.specs.Answers.{Answer, accepted, refused, ◌>>=◌, ◌>>◌, require, is_accepted, after_call}

pub no_of : {A : Type 0} {n : ℕ} {a : A} → refused n ≡ accepted a → ⊥
no_of e =
    let z : ◌≡◌ {A = ℕ} 0 1 = cc in
    omega arith

pub of_of : {A : Type 0} {a b : A} → accepted a ≡ accepted b → a ≡ b
of_of e = cc

-- the value of the first answer, and what the rest made of it
pub record Through {A B : Type 0} (x : Answer A) (f : A → Answer B) (b : B) : Type 0 where
  pub value : A
  pub first : x ≡ accepted value
  pub rest : f value ≡ accepted b

pub through : {A B : Type 0} (x : Answer A) (f : A → Answer B) (b : B) → (x >>= f) ≡ accepted b → Through x f b
unfolding ◌>>=◌
through (accepted a) f b h = record { value = a; first = refl; rest = h }
through (refused n) f b h = absurd (no_of h)

pub required : {B : Type 0} (test : Bool) (n : ℕ) (x : Answer B) (b : B) → (require test n >> x) ≡ accepted b → (test ≡ true) × (x ≡ accepted b)
unfolding ◌>>◌ require
required true n x b h = (refl, h)
required false n x b h = absurd (no_of h)

-- ---- check by check

-- one that holds is passed, one that does not ends the block
pub passed : {B : Type 0} (n : ℕ) (x : Answer B) {test : Bool} → test ≡ true → (require test n >> x) ≡ x
unfolding ◌>>◌ require
passed n x h = rw h

pub stopped : {B : Type 0} (n : ℕ) (x : Answer B) {test : Bool} → test ≡ false → (require test n >> x) ≡ refused n
unfolding ◌>>◌ require
stopped n x h = rw h

-- ---- a chain that ends in a value

pub then_value : {B : Type 0} (x : Answer (Unit {0})) (a b : B) → (x >> accepted a) ≡ accepted b → (is_accepted x ≡ true) × (a ≡ b)
unfolding is_accepted ◌>>◌
then_value (accepted u) a b h = (refl, of_of h)
then_value (refused n) a b h = absurd (no_of h)

pub accepted_then : {B : Type 0} (x : Answer (Unit {0})) (b : B) → is_accepted (x >> accepted b) ≡ is_accepted x
unfolding is_accepted ◌>>◌
accepted_then (accepted u) b = refl
accepted_then (refused n) b = refl

pub after_then : {B : Type 0} (before : B) (x : Answer (Unit {0})) (b : B) → after_call before (x >> accepted b) ≡ cond (is_accepted x) b before
unfolding is_accepted after_call ◌>>◌
after_then before (accepted u) b = refl
after_then before (refused n) b = refl

-- ---- after a call

-- what holds before it, and of what it is accepted with, holds after it
pub after_cases : {A : Type 0} (P : A → Type 0) (before : A) (x : Answer A) → P before → ((a : A) → x ≡ accepted a → P a) → P (after_call before x)
unfolding after_call
after_cases P before (accepted a) p f = f a refl
after_cases P before (refused n) p f = p

-- after a refusal it is as it was
pub after_refused : {A : Type 0} (before : A) (x : Answer A) (n : ℕ) → x ≡ refused n → after_call before x ≡ before
unfolding after_call
after_refused before x n e = rw e
