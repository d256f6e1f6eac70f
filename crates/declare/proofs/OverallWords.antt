-- The sentences on the templates 13 to 16.
use Rattle.std.specs.Prelude.{None, Some}
use mathlib.Core.Path.{◌≡◌, refl, subst, ◌∙◌, ap}
use mathlib.Core.Logic.{◌↔◌, ◌⊎◌}
use mathlib.Core.Bool.{Bool, true, false, not, ◌&&◌, ◌||◌}
use mathlib.Core.List.{List}
use Prim.Native.Nat.{ℕ, zero, suc, ◌+◌, ◌-◌, ◌≤◌, ◌<◌}
use native.Mathlib.Omega.{arith}
use borrow.Author.Tests.{ltb-true, leb-true, eqb-true, lt-ltb, le-leb, eq-eqb}
use lib.Dec.{leb}
use lib.ListN.{length}
use Rattle.declare.specs.Types.{Event, End, Rule}
use Rattle.declare.specs.Events.{event_at, first_time}
use Rattle.declare.specs.Overall.{is_overall, overall_of, counts_target, formula}
use Rattle.declare.specs.Suits.{occurs, before_end, within, between}
use Rattle.declare.specs.Verdicts.{occurs_at, fits_at, eligible, target, seen, formula_of, fulfilled_if, verdict}
use Rattle.declare.specs.Standings.{is_fulfilled, is_violated}
use Rattle.declare.specs.Words.{Before, Occurs, SomeOccurs, Four}
use Rattle.declare.proofs.Booleans.{and₂, both, not_says, and_says, or_says}
use Rattle.declare.proofs.Extension.{first_time_lem}
use Rattle.declare.proofs.Zero.{activation_zero, eligible_zero, decision_zero}
use Rattle.declare.proofs.Occurrences.{occurs_parts, seen_some, seen_at}
use Rattle.declare.proofs.Exactness.{verdict_is}

-- ---- the end of a window

pub before_reads : (d : ℕ) (u : End) → (before_end d u ≡ true) ↔ Before d u
unfolding before_end
before_reads d None = ((λ _. tt), (λ _. refl))
before_reads d (Some b) = (ltb-true d b, lt-ltb d b)

-- ---- the codes 13 to 16

-- one of them, if it holds of each
pub of_overall_lem : (P : ℕ → Type 0) → P 13 → P 14 → P 15 → P 16 → (code : ℕ) → is_overall code ≡ true → P code
unfolding is_overall
of_overall_lem P a b c d code h =
    let p : (leb 13 code ≡ true) × (leb code 16 ≡ true) = and₂ h in
    let low : 13 ≤ code = leb-true 13 code p.0 in
    let high : code ≤ 16 = leb-true code 16 p.1 in
    subst P (omega arith) (go (code - 13) (omega arith))
  where
    go : (n : ℕ) → n < 4 → P (13 + n)
    go zero l = a
    go (suc zero) l = b
    go (suc (suc zero)) l = c
    go (suc (suc (suc zero))) l = d
    go (suc (suc (suc (suc n)))) l = absurd (omega arith)

counts_none : (code : ℕ) → is_overall code ≡ true → code ≤ 14 → counts_target (overall_of code) ≡ false
unfolding overall_of
counts_none code h =
    of_overall_lem (λ k. k ≤ 14 → counts_target (overall_of k) ≡ false) (λ _. refl) (λ _. refl) (λ l. absurd (omega arith)) (λ l. absurd (omega arith)) code h

counts_both : (code : ℕ) → is_overall code ≡ true → 15 ≤ code → counts_target (overall_of code) ≡ true
unfolding overall_of
counts_both code h =
    of_overall_lem (λ k. 15 ≤ k → counts_target (overall_of k) ≡ true) (λ l. absurd (omega arith)) (λ l. absurd (omega arith)) (λ _. refl) (λ _. refl) code h

-- ---- rules about the cycle as such

module _ (r : Rule) (es : List Event) (k : ℕ) where
  occurs_reads : (j : ℕ) → 1 ≤ j → j ≤ length es → (occurs_at r es k j ≡ true) ↔ Occurs r es k j
  occurs_reads j a b = (to, from)
    where
      d : ℕ
      d = between (event_at es 1).time (event_at es j).time

      start : first_time 0 es ≡ (event_at es 1).time
      start = first_time_lem es (omega arith)

      to : occurs_at r es k j ≡ true → Occurs r es k j
      to h =
          let p = occurs_parts r es k j h in
          let w : (leb r.window.from d ≡ true) × (before_end d r.window.until ≡ true) = unfold within in and₂ (rw start at p.2) in
          record {
            low = a;
            high = b;
            has_activity = eqb-true (event_at es j).activity k p.0;
            meets_condition = p.1;
            at_least_a = leb-true r.window.from d w.0;
            below_b = (before_reads d r.window.until).0 w.1;
          }

      from : Occurs r es k j → occurs_at r es k j ≡ true
      from o =
          unfold occurs_at occurs within in
          rw start
          (both (both (eq-eqb (event_at es j).activity k o.has_activity) o.meets_condition)
          (both (le-leb r.window.from d o.at_least_a) ((before_reads d r.window.until).1 o.below_b)))

  seen_reads : (seen r es k ≡ true) ↔ SomeOccurs r es k
  seen_reads = (
    (λ h. let s = seen_at r es k h in (s.0, (occurs_reads s.0 s.1 s.2).0 s.3)),
    (λ s. seen_some r es k s.0 s.1.low s.1.high ((occurs_reads s.0 s.1.low s.1.high).1 s.1)),
  )

module _ (r : Rule) (es : List Event) (overall : is_overall r.code ≡ true) where
  abbrev A : Type 0
  A = SomeOccurs r es r.activation

  abbrev B : Type 0
  B = SomeOccurs r es r.target

  a : Bool
  a = seen r es r.activation

  b : Bool
  b = seen r es r.target

  a_says : (a ≡ true) ↔ A
  unfolding a
  a_says = seen_reads r es r.activation

  b_says : (b ≡ true) ↔ B
  unfolding b
  b_says = seen_reads r es r.target

  by_formula : (t : Bool) {P : Type 0} → formula_of r es ≡ t → (t ≡ true) ↔ P → ((is_fulfilled (verdict r es 0) ≡ true) ↔ P) × ((is_violated (verdict r es 0) ≡ true) ↔ (P → ⊥))
  by_formula t e f = rw (verdict_is r es 0 (activation_zero r es ∙ overall), decision_zero r es, e) (go t f)
    where
      go : (t : Bool) {P : Type 0} → (t ≡ true) ↔ P → ((is_fulfilled (fulfilled_if t (target r es 0)) ≡ true) ↔ P) × ((is_violated (fulfilled_if t (target r es 0)) ≡ true) ↔ (P → ⊥))
      go true f = (f, not_says true f)
      go false f = (f, not_says false f)

  formula_at : (code : ℕ) → r.code ≡ code → formula_of r es ≡ formula (overall_of code) a b
  unfolding formula_of a b
  formula_at code c = ap (λ (k : ℕ). formula (overall_of k) (seen r es r.activation) (seen r es r.target)) c

  fits_at_lem : (j : ℕ) → eligible r es 0 j ≡ (occurs_at r es r.activation j || (counts_target (overall_of r.code) && occurs_at r es r.target j))
  unfolding fits_at
  fits_at_lem j = eligible_zero r es j

  of_one : r.code ≤ 14 → (j : ℕ) → 1 ≤ j → j ≤ length es → (eligible r es 0 j ≡ true) ↔ Occurs r es r.activation j
  of_one few j x y = rw (fits_at_lem j, counts_none r.code overall few, or_none (occurs_at r es r.activation j)) (occurs_reads r es r.activation j x y)
    where
      or_none : (t : Bool) → (t || (false && occurs_at r es r.target j)) ≡ t
      or_none true = refl
      or_none false = refl

  of_either : 15 ≤ r.code → (j : ℕ) → 1 ≤ j → j ≤ length es → (eligible r es 0 j ≡ true) ↔ (Occurs r es r.activation j ⊎ Occurs r es r.target j)
  of_either some j x y =
      rw (fits_at_lem j, counts_both r.code overall some)
      (or_says (occurs_at r es r.activation j) (occurs_at r es r.target j) (occurs_reads r es r.activation j x y) (occurs_reads r es r.target j x y))

  pub four : Four r es A B
  unfolding overall_of
  four =
      record {
        existence = λ c. by_formula a (formula_at 13 c) a_says;
        absence = λ c. by_formula (not a) (formula_at 14 c) (not_says a a_says);
        choice = λ c. by_formula (a || b) (formula_at 15 c) (or_says a b a_says b_says);
        exclusive_choice = λ c. by_formula ((a || b) && not (a && b)) (formula_at 16 c) (and_says (a || b) (not (a && b)) (or_says a b a_says b_says) (not_says (a && b) (and_says a b a_says b_says)));
        of_one = of_one;
        of_either = of_either;
      }
