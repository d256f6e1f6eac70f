-- The digits found so far stand from `first` on, behind those of what is left of the number.
use mathlib.Core.Path.{◌≡◌, refl, sym, ◌∙◌}
use mathlib.Core.Bool.{Bool, true, false}
use mathlib.Core.List.{List, [], ◌∷◌, ◌++◌, append-nil, append_assoc}
use Prim.Native.Nat.{ℕ, suc, ◌+◌, ◌-◌, ◌/◌, ◌%◌, ◌≤◌, ◌<◌}
use native.Mathlib.Omega.{arith}
use native.Mathlib.Numerals.{add-one}
use borrow.Author.Tests.{ltb-true, ltb-false}
use lib.Dec.{ltb}
use lib.ListN.{length, take, drop, set, length-set, length-append, length-drop}
use lib.Seq.{set_split, drop_at, length-take-le, take_all}
use Rattle.number.specs.Written.{digits_of}
use Rattle.number.proofs.Written.{digits_one, digits_more}
use Rattle.number.proofs.Lengths.{digits_length}
use Rattle.buffer.proofs.Puts.{put_as}
use Rattle.buffer.proofs.put.Output.put_number.Goals as goal

-- ---- the digits by number

shorter : (n : ℕ) → 10 ≤ n → length (digits_of n) ≡ length (digits_of (n / 10)) + 1
shorter n h = rw (digits_more n h) (length-append (digits_of (n / 10)) ((48 + n % 10) ∷ []))

some : (n : ℕ) → 1 ≤ length (digits_of n)
some n = go (ltb n 10) refl
  where
    go : (t : Bool) → ltb n 10 ≡ t → 1 ≤ length (digits_of n)
    go true e = rw (digits_one n (ltb-true n 10 e)) (omega arith)
    go false e = omega (arith, shorter n (ltb-false n 10 e))

-- a digit before those that stand from i + 1 on
before : (l : List ℕ) (i b : ℕ) → i < length l → drop i (set l i b) ≡ b ∷ drop (i + 1) l
before l i b h = rw (set_split l i b h, add-one i) (drop_at (take i l) (b ∷ drop (suc i) l) i (length-take-le i l (omega arith)))

again : (l : List ℕ) (i left n : ℕ) → i < length l → 10 ≤ left → digits_of n ≡ digits_of left ++ drop (i + 1) l → digits_of n ≡ digits_of (left / 10) ++ drop i (set l i (48 + left % 10))
again l i left n h m e =
    rw (before l i (48 + left % 10) h)
    (e ∙ rw (digits_more left m) (append_assoc (digits_of (left / 10)) ((48 + left % 10) ∷ []) (drop (i + 1) l)))

-- the last of them, and all
last : (l : List ℕ) (i left n : ℕ) → length l ≡ 10 → i < 10 → left < 10 → digits_of n ≡ digits_of left ++ drop (i + 1) l → take (10 - i) (drop i (set l i (48 + left))) ≡ digits_of n
last l i left n s h m e =
    let few : length (drop i (set l i (48 + left))) ≤ 10 - i = rw (length-drop i (set l i (48 + left)), length-set l i (48 + left)) (omega arith) in
    take_all (10 - i) (drop i (set l i (48 + left))) few
    ∙ before l i (48 + left) (omega arith)
    ∙ sym (e ∙ rw (digits_one left m))

pub returns-then-n-lt10 : goal.returns-then-n-lt10
returns-then-n-lt10 c = rw (digits_one c.args.n (omega arith)) c.put_byte.ensures

pub loop-left-init : goal.loop-left-init
loop-left-init c =
    let n = c.args.n in
    (refl, omega arith, digits_length 9 n (omega arith), sym (append-nil (digits_of n)))

pub overflow_sub-first : goal.overflow_sub-first
overflow_sub-first c =
    let l = c.loop-left in
    omega (arith, shorter l.left c.loop-left-test.true, some (l.left / 10))

pub loop-left-preserved : goal.loop-left-preserved
loop-left-preserved c =
    let l = c.loop-left in
    let m = c.loop-left-test.true in
    let low : 1 ≤ l.first = omega (arith, shorter l.left m, some (l.left / 10)) in
    let e : l.first - 1 + 1 ≡ l.first = omega arith in (
      length-set l.digits l.first (48 + l.left % 10) ∙ l.invariant.0,
      omega arith,
      omega (arith, shorter l.left m),
      rw e (again l.digits l.first l.left _ (omega arith) m l.invariant.3),
    )

pub returns : goal.returns
returns c =
    let l = c.loop-left in
    let p = c.put_bytes.ensures in
    put_as (last l.digits l.first l.left _ l.invariant.0 (omega arith) (omega arith) l.invariant.3) p
