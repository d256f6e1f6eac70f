-- Laws of tests and counts over lists and over places, of any list; and of one event more at the
-- end of a list.
use mathlib.Core.Path.{◌≡◌, refl, sym, ap, ap₂, ◌∙◌}
use mathlib.Core.Logic.{⊎_elim}
use mathlib.Core.Bool.{Bool, true, false, not, ◌&&◌, and-true, and_assoc}
use mathlib.Core.List.{List, [], ◌∷◌, ◌++◌}
use Prim.Native.Nat.{ℕ, zero, suc, ◌+◌, ◌*◌, ◌/◌, ◌%◌, ◌≤◌, ◌<◌}
use native.Mathlib.Nat.{add-zero, not-suc-le-zero, le_of_suc-le-suc, eq-or-lt_of_le}
use native.Mathlib.Omega.{arith}
use borrow.Author.Tests.{le-leb, lt-leb, le-ltb, lt-ltb, ltb-true, ltb-false, leb-true, leb-false}
use lib.Dec.{leb, ltb}
use lib.ListN.{length, get_or, take, replicate}
use lib.Seq.{take-suc}
use Rattle.declare.specs.Types.{Event}
use Rattle.declare.specs.Lists.{all, all_below, bit, count_below}
use Rattle.declare.specs.Events.{non_falling_from, non_falling, last_from, last_time}
use Rattle.declare.proofs.Booleans.{and_left, and_right, both}
use Rattle.declare.proofs.Extension.{non_falling_parts, last_parts}

-- ---- the first n elements

pub all_parts : {A : Type 0} (p : A → Bool) (xs ys : List A) → all p (xs ++ ys) ≡ (all p xs && all p ys)
unfolding all
all_parts p [] ys = refl
all_parts p (x ∷ xs) ys = ap (λ t. p x && t) (all_parts p xs ys) ∙ sym (and_assoc (p x) (all p xs) (all p ys))

-- one more element
pub all_more : {A : Type 0} (p : A → Bool) (xs : List A) (n : ℕ) (d : A) → n < length xs → all p (take (suc n) xs) ≡ (all p (take n xs) && p (get_or xs n d))
unfolding all
all_more p xs n d h = rw (take-suc xs n d h, all_parts p (take n xs) (get_or xs n d ∷ [])) (ap (λ t. all p (take n xs) && t) (and-true (p (get_or xs n d))))

pub all_taken : {A : Type 0} (p : A → Bool) (xs : List A) (n : ℕ) (d : A) → n ≤ length xs → all_below (λ k. p (get_or xs k d)) n ≡ all p (take n xs)
unfolding all_below all
all_taken p xs zero d h = refl
all_taken p xs (suc n) d h =
    ap (λ t. t && p (get_or xs n d)) (all_taken p xs n d (omega arith)) ∙ sym (all_more p xs n d h)

-- ---- the places below n

-- one place, or each
pub all_each : (p : ℕ → Bool) (n : ℕ) → all_below p n ≡ true → (k : ℕ) → k < n → p k ≡ true
unfolding all_below
all_each p zero h k l = absurd (not-suc-le-zero l)
all_each p (suc n) h k l =
    ⊎_elim (λ e. rw e (and_right (all_below p n) (p n) h)) (λ m. all_each p n (and_left (all_below p n) (p n) h) k m) (eq-or-lt_of_le (le_of_suc-le-suc l))

pub each_all : (p : ℕ → Bool) (n : ℕ) → ((k : ℕ) → k < n → p k ≡ true) → all_below p n ≡ true
unfolding all_below
each_all p zero f = refl
each_all p (suc n) f = both (each_all p n (λ k l. f k (omega arith))) (f n (omega arith))

-- two tests that agree
pub all_same : (p q : ℕ → Bool) (n : ℕ) → ((k : ℕ) → k < n → p k ≡ q k) → all_below p n ≡ all_below q n
unfolding all_below
all_same p q zero f = refl
all_same p q (suc n) f = ap₂ ◌&&◌ (all_same p q n (λ k l. f k (omega arith))) (f n (omega arith))

pub all_split : (p : ℕ → Bool) (a b : ℕ) → all_below p (a + b) ≡ (all_below p a && all_below (λ k. p (a + k)) b)
unfolding all_below
all_split p a zero = rw add-zero (sym (and-true (all_below p a)))
all_split p a (suc b) =
    let e : a + suc b ≡ suc (a + b) = omega arith in
    rw e (ap (λ t. t && p (a + b)) (all_split p a b) ∙ and_assoc (all_below p a) (all_below (λ k. p (a + k)) b) (p (a + b)))

-- places in one row after the other, as rows
pub all_rows : (q : ℕ → ℕ → Bool) (n : ℕ) → all_below (λ j. q (j / 256) (j % 256)) (n * 256) ≡ all_below (λ k. all_below (q k) 256) n
unfolding all_below
all_rows q zero = refl
all_rows q (suc n) =
    let e : suc n * 256 ≡ n * 256 + 256 = omega arith in
    rw (e, all_split (λ j. q (j / 256) (j % 256)) (n * 256) 256)
    (ap₂ ◌&&◌ (all_rows q n) (all_same (λ p. q ((n * 256 + p) / 256) ((n * 256 + p) % 256)) (q n) 256 (λ p l. row p l)))
  where
    row : (p : ℕ) → p < 256 → q ((n * 256 + p) / 256) ((n * 256 + p) % 256) ≡ q n p
    row p l =
        let a : (n * 256 + p) / 256 ≡ n = omega arith in
        let b : (n * 256 + p) % 256 ≡ p = omega arith in
        rw (a, b) refl

pub count_same : (p q : ℕ → Bool) (n : ℕ) → ((k : ℕ) → k < n → p k ≡ q k) → count_below p n ≡ count_below q n
unfolding count_below
count_same p q zero f = refl
count_same p q (suc n) f =
    ap₂ (λ (a : ℕ) (b : Bool). a + bit b) (count_same p q n (λ k l. f k (omega arith))) (f n (omega arith))

-- ---- one event more

pub falls_more : (es : List Event) (e : Event) → non_falling (es ++ e ∷ []) ≡ (non_falling es && leb (last_time es) e.time)
unfolding non_falling non_falling_from last_time
falls_more es e =
    non_falling_parts 0 es (e ∷ []) ∙ ap (λ t. non_falling_from 0 es && t) (and-true (leb (last_from 0 es) e.time))

pub last_more : (es : List Event) (e : Event) → last_time (es ++ e ∷ []) ≡ e.time
unfolding last_time last_from
last_more es e = last_parts 0 es (e ∷ [])

-- ---- others

-- a list of equal elements, also past its end
pub replicated : {A : Type 0} (n i : ℕ) (a : A) → get_or (replicate n a) i a ≡ a
replicated zero i a = refl
replicated (suc n) zero a = refl
replicated (suc n) (suc i) a = replicated n i a

-- the two orders as tests
pub leb_not : (a b : ℕ) → leb a b ≡ not (ltb b a)
leb_not a b = go (ltb b a) refl
  where
    go : (t : Bool) → ltb b a ≡ t → leb a b ≡ not t
    go true q = lt-leb a b (ltb-true b a q)
    go false q = le-leb a b (ltb-false b a q)

pub ltb_not : (a b : ℕ) → ltb a b ≡ not (leb b a)
ltb_not a b = go (leb b a) refl
  where
    go : (t : Bool) → leb b a ≡ t → ltb a b ≡ not t
    go true q = le-ltb a b (leb-true b a q)
    go false q = lt-ltb a b (leb-false b a q)
