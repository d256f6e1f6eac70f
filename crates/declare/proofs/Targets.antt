-- The laws of `target`. Elsewhere they are cited, and `target` is not opened.
use mathlib.Core.Path.{◌≡◌, refl, sym, ◌∙◌, ap}
use mathlib.Core.Bool.{Bool, true, false, ◌&&◌, true≢false}
use mathlib.Core.List.{List, [], ◌∷◌, ◌++◌}
use Prim.Native.Nat.{ℕ, zero, suc, min, ◌≤◌, ◌<◌, zero-le}
use native.Mathlib.Omega.{arith}
use native.Mathlib.Numerals.{add-one}
use borrow.Author.Tests.{ltb-true, ltb-false, leb-true, leb-false}
use lib.Dec.{leb, ltb}
use lib.ListN.{length, length-append}
use Rattle.declare.specs.Types.{Event, Rule}
use Rattle.declare.specs.Lists.{or_else, first_up_to, last_up_to, first_past, nearest}
use Rattle.declare.specs.Verdicts.{eligible, target}
use Rattle.declare.specs.Words.{NoneEligible, MayName, Names}
use Rattle.declare.proofs.Booleans.{and_left, and_right}
use Rattle.declare.proofs.Positions.{Earliest, earliest, past_it, Latest, latest}
use Rattle.declare.proofs.Nearest.{nearest_same, nearest_cut, nearest_stays, nearest_here}
use Rattle.declare.proofs.Extension.{eligible_same}

-- ---- which one it is

module _ (r : Rule) (es : List Event) (i : ℕ) where
  abbrev p : ℕ → Bool
  p = eligible r es i

  -- k passes neither up to i nor past it
  neither : Latest p (min i (length es)) 0 → (k : ℕ) → 1 ≤ k → k ≤ length es → (ltb i k && p k) ≡ false → p k ≡ false
  neither none k a b e = go (ltb i k) refl
    where
      go : (t : Bool) → ltb i k ≡ t → p k ≡ false
      go true q = sym (past_it p i k (ltb-true i k q)) ∙ e
      go false q = none.2 k a (omega (arith, ltb-false i k q))

  names_past : (f : ℕ) → Latest p (min i (length es)) 0 → Earliest (λ j. ltb i j && p j) (length es) f → Names r es i f
  names_past zero none e =
      let absent : NoneEligible r es i = λ k a b. neither none k a b (e k a b) in
      record { may = absent; latest = λ _ k a b c. absent k a c; first = λ l. absurd (omega arith) }
  names_past (suc f) none e =
      let past : i < suc f = ltb-true i (suc f) (and_left (ltb i (suc f)) (p (suc f)) e.1) in
      record {
        may = (e.0, and_right (ltb i (suc f)) (p (suc f)) e.1);
        latest = λ l. absurd (omega arith);
        first = λ _ k a b. neither none k a (omega (arith, e.0)) (e.2 k a b);
      }

  names_found : (l f : ℕ) → Latest p (min i (length es)) l → Earliest (λ j. ltb i j && p j) (length es) f → Names r es i (or_else l f)
  names_found zero f none e = names_past f none e
  names_found (suc l) f e _ =
      record {
        may = (omega (arith, e.0), e.1 (omega arith));
        latest = λ _ k a b c. e.2 k a (omega arith);
        first = λ m. absurd (omega (arith, e.0));
      }

  pub named : Names r es i (target r es i)
  unfolding target nearest first_past
  named =
      names_found (last_up_to p (min i (length es))) (first_up_to (λ j. ltb i j && p j) (length es)) (latest p (min i (length es)))
      (earliest (λ j. ltb i j && p j) (length es))

  pub target_within : target r es i ≤ length es
  target_within = go (target r es i) named.may
    where
      go : (j : ℕ) → MayName r es i j → j ≤ length es
      go zero m = zero-le
      go (suc j) m = m.0

  -- no other one is named
  not_below : (j k : ℕ) → Names r es i j → Names r es i k → j < k → ⊥
  not_below j zero a b l = absurd (omega arith)
  not_below zero (suc k) a b l = true≢false (sym b.may.1 ∙ a.may (suc k) (omega arith) b.may.0)
  not_below (suc j) (suc k) a b l = go (leb (suc k) i) refl
    where
      go : (t : Bool) → leb (suc k) i ≡ t → ⊥
      go true q =
          let m : suc k ≤ i = leb-true (suc k) i q in
          true≢false (sym b.may.1 ∙ a.latest (omega arith) (suc k) l m b.may.0)
      go false q = true≢false (sym a.may.1 ∙ b.first (leb-false (suc k) i q) (suc j) (omega arith) l)

  pub only_named : (j : ℕ) → Names r es i j → j ≡ target r es i
  only_named j n = go (ltb j (target r es i)) (ltb (target r es i) j) refl refl
    where
      go : (t u : Bool) → ltb j (target r es i) ≡ t → ltb (target r es i) j ≡ u → j ≡ target r es i
      go true u q v = absurd (not_below j (target r es i) n named (ltb-true j (target r es i) q))
      go false true q v = absurd (not_below (target r es i) j named n (ltb-true (target r es i) j v))
      go false false q v = omega (arith, ltb-false j (target r es i) q, ltb-false (target r es i) j v)

-- by a test that says of each of the n positions whether it is eligible
pub target_by : (r : Rule) (es : List Event) (i n : ℕ) (p : ℕ → Bool) → length es ≡ n → ((k : ℕ) → 1 ≤ k → k ≤ n → eligible r es i k ≡ p k) → target r es i ≡ nearest p i n
unfolding target
target_by r es i n p e f = ap (nearest (eligible r es i) i) e ∙ nearest_same (eligible r es i) p i n f

-- what is eligible alike has the same target
pub target_same : (q r : Rule) (es : List Event) (i : ℕ) → ((k : ℕ) → eligible q es i k ≡ eligible r es i k) → target q es i ≡ target r es i
unfolding target
target_same q r es i f = nearest_same (eligible q es i) (eligible r es i) i (length es) (λ k a b. f k)

-- ---- one event more, or many

module _ (r : Rule) (es : List Event) (i : ℕ) (high : i ≤ length es) where
  longer : (added : List Event) → length es ≤ length (es ++ added)
  longer added = omega (arith, length-append es added)

  -- the target among the taken positions, in a continuation
  target_taken : (added : List Event) → nearest (eligible r (es ++ added) i) i (length es) ≡ target r es i
  unfolding target
  target_taken added =
      nearest_same (eligible r (es ++ added) i) (eligible r es i) i (length es) (λ k a b. eligible_same r es added i k high a b)

  -- a target stays when events are appended
  pub target_stays : (added : List Event) (j : ℕ) → target r es i ≡ suc j → target r (es ++ added) i ≡ suc j
  unfolding target
  target_stays added j e =
      nearest_stays (eligible r (es ++ added) i) i (length es) (length (es ++ added)) j high (longer added) (target_taken added ∙ e)

  -- nor does it change where none comes
  pub target_cut : (added : List Event) → ((k : ℕ) → length es < k → k ≤ length (es ++ added) → eligible r (es ++ added) i k ≡ false) → target r (es ++ added) i ≡ target r es i
  unfolding target
  target_cut added f =
      nearest_cut (eligible r (es ++ added) i) i (length es) (length (es ++ added)) (longer added) f ∙ target_taken added

  pub target_next : (e : Event) → target r es i ≡ 0 → eligible r (es ++ e ∷ []) i (suc (length es)) ≡ true → target r (es ++ e ∷ []) i ≡ suc (length es)
  unfolding target
  target_next e none here =
      rw (length-append, add-one) (nearest_here (eligible r (es ++ e ∷ []) i) i (length es) high (target_taken (e ∷ []) ∙ none) here)
