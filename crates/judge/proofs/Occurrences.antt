-- The standing at position 0 from the first occurrence of each activity: which of them there is
-- settles the formula, and the earlier is the target.
use mathlib.Core.Path.{◌≡◌, refl, sym, subst, ◌∙◌, ap, ap₂}
use mathlib.Core.Bool.{Bool, true, false, not, cond, ◌&&◌, ◌||◌, true≢false, false≢true, and_assoc}
use mathlib.Core.List.{List}
use Prim.Native.Nat.{ℕ, zero, suc, ◌+◌, ◌-◌, min, ◌≤◌, ◌<◌, zero-le}
use native.Mathlib.Omega.{arith}
use borrow.Author.Tests.{lt-ltb, le-ltb, ltb-true, ltb-false, le-leb, lt-leb, leb-true, leb-false}
use lib.Dec.{leb, ltb, eqb}
use lib.ListN.{length, get_or, take}
use lib.Seq.{take_all}
use Rattle.declare.specs.declared.Event.{Event}
use Rattle.declare.specs.declared.Rule.{Rule}
use Rattle.declare.specs.declared.Table.{Table}
use Rattle.declare.specs.declared.Overall.{Overall}
use Rattle.declare.specs.declared.Overall.TheVariants.{Existence, Absence, Choice, ExclusiveChoice}
use Rattle.declare.specs.declared.Standing.{Standing}
use Rattle.declare.specs.declared.Standing.TheVariants.{Open}
use Rattle.declare.specs.Limits.{most_events}
use Rattle.declare.specs.Lists.{found, first_up_to}
use Rattle.declare.specs.Conditions.{met}
use Rattle.declare.specs.Events.{no_event, event_at, first_time}
use Rattle.declare.specs.Overall.{is_overall, overall_of, counts_target, formula, settled}
use Rattle.declare.specs.Rules.{no_rule, rule_at, is_overall_rule}
use Rattle.declare.specs.Suits.{occurs, activation_at, within, between}
use Rattle.declare.specs.Verdicts.{occurs_at, fits_at, eligible, target, seen, formula_of, fulfilled_if, decision}
use Rattle.declare.specs.Reachability.{can_occur, is_settled}
use Rattle.declare.specs.Standings.{is_decided}
use Rattle.declare.specs.Steps.{carried}
use Rattle.declare.specs.Words.{Names}
use Rattle.declare.proofs.Booleans.{or_left, or_right}
use Rattle.declare.proofs.Positions.{Earliest, earliest}
use Rattle.declare.proofs.Zero.{activation_zero, eligible_zero, decision_zero, undecided_zero}
use Rattle.declare.proofs.Targets.{only_named}
use Rattle.declare.proofs.Exactness.{verdict_is, standing_is}
use Rattle.declare.proofs.Carried.{carried_decided, carried_other}
use Rattle.standings.specs.declared.Cell.{Cell}
use Rattle.standings.specs.Places.{overall_cell}
use Rattle.judge.specs.Cells.{judged, judged_at}
use Rattle.judge.specs.Occurrences.{earlier, target_occurrence}

-- ---- the events

pub occurs_next : (r : Rule) (k : ℕ) (es : List Event) (p : ℕ) {first : ℕ} → first ≡ first_time 0 es → occurs_at r es k (suc p) ≡ (eqb (get_or es p no_event).activity k && (met r.condition (get_or es p no_event) (get_or es p no_event) && within r.window (between first (get_or es p no_event).time)))
unfolding occurs_at occurs event_at
occurs_next r k es p e =
    let z : suc p - 1 ≡ p = omega arith in
    rw (z, e) (simp and_assoc)

-- ---- what they say

found_ltb : (j : ℕ) → ltb 0 j ≡ found j
found_ltb zero = le-ltb 0 0 zero-le
found_ltb (suc j) = lt-ltb 0 (suc j) (omega arith)

-- under 13 and 14 the target activity is not looked at
formula_counted : (o : Overall) (a b : Bool) → formula o a (counts_target o && b) ≡ formula o a b
formula_counted Existence a b = refl
formula_counted Absence a b = refl
formula_counted Choice a b = refl
formula_counted ExclusiveChoice a b = refl

settled_counted : (o : Overall) (a b : Bool) → settled o a (counts_target o && b) ≡ settled o a b
settled_counted Existence a b = refl
settled_counted Absence a b = refl
settled_counted Choice a b = refl
settled_counted ExclusiveChoice a b = refl

found_counted : (t : Bool) (j : ℕ) → found (cond t j 0) ≡ (t && found j)
found_counted true j = refl
found_counted false j = refl

-- the first occurrences, of the activation activity and of the target activity
pub record Firsts (r : Rule) (es : List Event) (a b : ℕ) : Type 0 where
  pub activation : a ≡ first_up_to (occurs_at r es r.activation) (length es)
  pub target : b ≡ target_occurrence r es (length es)

module _ {r : Rule} {es : List Event} {a b : ℕ} (first : Firsts r es a b) where
  abbrev kind : Overall
  kind = overall_of r.code

  a_seen : ltb 0 a ≡ seen r es r.activation
  unfolding seen
  a_seen = found_ltb a ∙ ap found first.activation

  b_seen : ltb 0 b ≡ (counts_target kind && seen r es r.target)
  unfolding seen target_occurrence
  b_seen = found_ltb b ∙ ap found first.target ∙ found_counted (counts_target kind) _

  pub formula_is : formula kind (ltb 0 a) (ltb 0 b) ≡ formula_of r es
  unfolding formula_of
  formula_is = rw (a_seen, b_seen) (formula_counted kind _ _)

  pub settled_is : settled kind (ltb 0 a) (ltb 0 b) ≡ is_settled r es
  unfolding is_settled
  settled_is = rw (a_seen, b_seen) (settled_counted kind _ _)

  -- ---- the target

  abbrev p : ℕ → Bool
  p = occurs_at r es r.activation

  q : ℕ → Bool
  q j = counts_target kind && occurs_at r es r.target j

  fits_is : (j : ℕ) → eligible r es 0 j ≡ (p j || q j)
  unfolding fits_at q
  fits_is j = eligible_zero r es j

  a_earliest : Earliest p (length es) a
  a_earliest = subst (Earliest p (length es)) (sym first.activation) (earliest p (length es))

  b_earliest : Earliest q (length es) b
  unfolding q target_occurrence
  b_earliest = subst (Earliest q (length es)) (sym first.target) (go (counts_target kind))
    where
      go : (t : Bool) → Earliest (λ j. t && occurs_at r es r.target j) (length es) (cond t (first_up_to (occurs_at r es r.target) (length es)) 0)
      go true = earliest (occurs_at r es r.target) (length es)
      go false = λ k x y. refl

  or_none : (j : ℕ) → p j ≡ false → q j ≡ false → eligible r es 0 j ≡ false
  or_none j x y = fits_is j ∙ rw (x, y)

  named_by : (i j : ℕ) → Earliest p (length es) i → Earliest q (length es) j → Names r es 0 (earlier i j)
  named_by zero zero x y =
      record { may = λ k c d. or_none k (x k c d) (y k c d); latest = λ _ k c d. absurd (omega arith); first = λ l. absurd (omega arith) }
  named_by zero (suc j) x y =
      record {
        may = (y.0, fits_is (suc j) ∙ or_right (p (suc j)) y.1);
        latest = λ l. absurd (omega arith);
        first = λ _ k c d. or_none k (x k c (omega (arith, y.0))) (y.2 k c d);
      }
  named_by (suc i) zero x y =
      record {
        may = (x.0, fits_is (suc i) ∙ or_left (q (suc i)) x.1);
        latest = λ l. absurd (omega arith);
        first = λ _ k c d. or_none k (x.2 k c d) (y k c (omega (arith, x.0)));
      }
  named_by (suc i) (suc j) x y = go (ltb (suc i) (suc j)) refl
    where
      before : (m : ℕ) → m ≡ min (suc i) (suc j) → (k : ℕ) → 1 ≤ k → k < m → eligible r es 0 k ≡ false
      before m e k c d = or_none k (x.2 k c (omega arith)) (y.2 k c (omega arith))

      go : (t : Bool) → ltb (suc i) (suc j) ≡ t → Names r es 0 (min (suc i) (suc j))
      go true s =
          let e : min (suc i) (suc j) ≡ suc i = omega (arith, ltb-true (suc i) (suc j) s) in
          rw e (record { may = (x.0, fits_is (suc i) ∙ or_left (q (suc i)) x.1); latest = λ l. absurd (omega arith); first = λ _. before (suc i) (sym e) })
      go false s =
          let e : min (suc i) (suc j) ≡ suc j = omega (arith, ltb-false (suc i) (suc j) s) in
          rw e (record { may = (y.0, fits_is (suc j) ∙ or_right (p (suc j)) y.1); latest = λ l. absurd (omega arith); first = λ _. before (suc j) (sym e) })

  target_is : earlier a b ≡ target r es 0
  target_is = only_named r es 0 (earlier a b) (named_by a b a_earliest b_earliest)

  -- ---- the standing

  module _ (overall : is_overall r.code ≡ true) (running : Bool) (h : ℕ) where
    on : activation_at r es 0 ≡ true
    on = activation_zero r es ∙ overall

    decided_is : {s : Standing} → s ≡ fulfilled_if (formula kind (ltb 0 a) (ltb 0 b)) (earlier a b) → s ≡ decision r es 0
    decided_is e = e ∙ ap₂ fulfilled_if formula_is target_is ∙ sym (decision_zero r es)

    by_firsts : judged running r es h 0 ≡ cond (running && (not (settled kind (ltb 0 a) (ltb 0 b)) && can_occur r es h)) Open (decision r es 0)
    unfolding judged
    by_firsts = go running
      where
        go : (t : Bool) → judged t r es h 0 ≡ cond (t && (not (settled kind (ltb 0 a) (ltb 0 b)) && can_occur r es h)) Open (decision r es 0)
        go true = standing_is r es h 0 on ∙ rw (undecided_zero r es h, settled_is)
        go false = verdict_is r es 0 on

    pub shut : {s : Standing} → s ≡ fulfilled_if (formula kind (ltb 0 a) (ltb 0 b)) (earlier a b) → (not running || settled kind (ltb 0 a) (ltb 0 b)) ≡ true → s ≡ judged running r es h 0
    shut e t = decided_is e ∙ sym (by_firsts ∙ rw (go running (settled kind (ltb 0 a) (ltb 0 b)) t))
      where
        go : (u v : Bool) → (not u || v) ≡ true → (u && (not v && can_occur r es h)) ≡ false
        go true true t = refl
        go true false t = absurd (false≢true t)
        go false v t = refl

    still : (not running || settled kind (ltb 0 a) (ltb 0 b)) ≡ false → judged running r es h 0 ≡ cond (can_occur r es h) Open (decision r es 0)
    still t = by_firsts ∙ rw (go running (settled kind (ltb 0 a) (ltb 0 b)) t)
      where
        go : (u v : Bool) → (not u || v) ≡ false → (u && (not v && can_occur r es h)) ≡ can_occur r es h
        go true true t = absurd (true≢false t)
        go true false t = refl
        go false v t = absurd (true≢false t)

    pub opened : (not running || settled kind (ltb 0 a) (ltb 0 b)) ≡ false → can_occur r es h ≡ true → Open ≡ judged running r es h 0
    opened t c = sym (still t ∙ rw c)

    pub past : {s : Standing} → s ≡ fulfilled_if (formula kind (ltb 0 a) (ltb 0 b)) (earlier a b) → (not running || settled kind (ltb 0 a) (ltb 0 b)) ≡ false → can_occur r es h ≡ false → s ≡ judged running r es h 0
    past e t c = decided_is e ∙ sym (still t ∙ rw c)

-- ---- the cells

-- counts past what the arrays hold
pub taken_within : (n : ℕ) (events : List Event) → length events ≡ most_events → take (min n most_events) events ≡ take n events
taken_within n events full = go (leb n most_events) refl
  where
    go : (t : Bool) → leb n most_events ≡ t → take (min n most_events) events ≡ take n events
    go true e =
        let l = leb-true n most_events e in
        let m : min n most_events ≡ n = omega arith in
        ap (λ (m : ℕ). take m events) m
    go false e =
        let l : most_events < n = leb-false n most_events e in
        take_all (min n most_events) events (omega arith) ∙ sym (take_all n events (omega arith))

module _ (t : Table) (running : Bool) (es : List Event) (h k : ℕ) (c : Cell) where
  abbrev changes : Cell
  changes = overall_cell (is_overall_rule t) (judged_at running t es h) k c

  abbrev rule : Rule
  rule = get_or t.rules k no_rule

  of_rule : k < t.count → is_overall_rule t (k + 1) ≡ is_overall rule.code
  unfolding is_overall_rule rule_at
  of_rule l =
      let z : k + 1 - 1 ≡ k = omega arith in
      rw (le-leb (k + 1) t.count (omega arith), z) refl

  pub cell_judged : k < t.count → is_overall rule.code ≡ true → is_decided c.standing ≡ false → {s : Standing} → s ≡ judged running rule es h 0 → record { standing = s } ≡ changes
  unfolding overall_cell judged_at rule_at
  cell_judged l o d e =
      let z : k + 1 - 1 ≡ k = omega arith in
      rw (of_rule l, o, carried_other c.standing (judged running (get_or t.rules (k + 1 - 1) no_rule) es h 0) d, z)
      (ap (λ (s : Standing). record { standing = s }) e)

  pub cell_stays : k < t.count → (is_overall rule.code && not (is_decided c.standing)) ≡ false → changes ≡ c
  unfolding overall_cell judged_at
  cell_stays l f = rw (of_rule l) (go (is_overall rule.code) (is_decided c.standing) refl f)
    where
      go : (o d : Bool) → is_decided c.standing ≡ d → (o && not d) ≡ false → cond o (record { standing = carried c.standing (judged running (rule_at t (k + 1)) es h 0) }) c ≡ c
      go true true q f = ap (λ (s : Standing). record { standing = s }) (carried_decided c.standing _ q)
      go true false q f = absurd (true≢false f)
      go false d q f = refl

  pub cell_past : t.count ≤ k → changes ≡ c
  unfolding overall_cell is_overall_rule
  cell_past l = rw (lt-leb (k + 1) t.count (omega arith))
