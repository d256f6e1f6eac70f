-- The stored totals are the counts: the record check asks for it, and counting leaves it so.
use Rattle.std.proofs.Common.{Some, None}
use mathlib.Core.Path.{◌≡◌, refl, sym, ap, ap₂, ◌∙◌}
use mathlib.Core.Bool.{Bool, true, false, cond, ◌&&◌, and_assoc}
use mathlib.Core.List.{List}
use Prim.Native.Nat.{ℕ, ◌+◌, ◌-◌, ◌≤◌, ◌<◌, min}
use native.Mathlib.Nat.{zero-add}
use native.Mathlib.Omega.{arith}
use borrow.Author.Tests.{eqb-true, leb-true, leb-false, lt-ltb, le-ltb}
use store.Seg.{eqb_same}
use lib.Dec.{leb, ltb, eqb}
use lib.ListN.{length, get_or, length-replicate}
use lib.Seq.{ext_get_or}
use Rattle.declare.specs.Limits.{most_rules, most_events}
use Rattle.declare.specs.Lists.{all_below}
use Rattle.declare.proofs.Booleans.{both₄, and₄}
use Rattle.declare.proofs.Lists.{all_each, all_same, each_all, replicated}
use Rattle.declare.proofs.Sweeps.{get_or_map_from, length_map_from}
use Rattle.standings.specs.declared.totals.Totals.{Totals}
use Rattle.standings.specs.Totals.{totals_by, no_totals, idle_totals, zero_totals, row_totals}
use Rattle.standings.proofs.Counting.{rows_counted}
use Rattle.run.specs.declared.Run.{Run}
use Rattle.run.specs.Records.{standing_at, totals_in, stored_totals, with_totals, counted_totals, counted, same_totals, valid_totals, valid_run}
use Rattle.run.proofs.Bounds.{valid_parts}

-- ---- the check

same_is : (a b : Totals) → same_totals a b ≡ true → a ≡ b
same_is a b h =
    let p : (eqb a.activations b.activations ≡ true) × (eqb a.fulfilled b.fulfilled ≡ true) × (eqb a.violated b.violated ≡ true) × (eqb a.«open» b.«open» ≡ true) = and₄ h in
    ap (λ (n : ℕ). record { activations = n; fulfilled = a.fulfilled; violated = a.violated; «open» = a.«open» }) (eqb-true _ _ p.0)
    ∙ ap (λ (n : ℕ). record { activations = b.activations; fulfilled = n; violated = a.violated; «open» = a.«open» }) (eqb-true _ _ p.1)
    ∙ ap (λ (n : ℕ). record { activations = b.activations; fulfilled = b.fulfilled; violated = n; «open» = a.«open» }) (eqb-true _ _ p.2)
    ∙ ap (λ (n : ℕ). record { activations = b.activations; fulfilled = b.fulfilled; violated = b.violated; «open» = n }) (eqb-true _ _ p.3)

same_self : (a b : Totals) → a ≡ b → same_totals a b ≡ true
same_self a b e =
    rw e (both₄ (eqb_same b.activations) (eqb_same b.fulfilled) (eqb_same b.violated) (eqb_same b.«open»))

-- `==` compares the four from the last on
pub same_by_fields : (a b : Totals) → (eqb a.activations b.activations && (eqb a.fulfilled b.fulfilled && (eqb a.violated b.violated && eqb a.«open» b.«open»))) ≡ same_totals a b
same_by_fields a b =
    grouped (eqb a.activations b.activations) (eqb a.fulfilled b.fulfilled) (eqb a.violated b.violated) (eqb a.«open» b.«open»)
  where
    grouped : (p q r s : Bool) → (p && (q && (r && s))) ≡ (p && q && r && s)
    grouped true q r s = sym (and_assoc q r s)
    grouped false q r s = refl

module _ (r : Run) where
  pub stored_is_counted : valid_run r ≡ true → (k : ℕ) → 1 ≤ k → k ≤ r.table.count → stored_totals r k ≡ totals_in r k
  unfolding valid_totals
  stored_is_counted v k low high =
      let e : k - 1 + 1 ≡ k = omega arith in
      same_is (stored_totals r k) (totals_in r k)
      (rw e at (all_each (λ q. same_totals (stored_totals r (q + 1)) (totals_in r (q + 1))) r.table.count (valid_parts r v).totals (k - 1) (omega arith)))

  pub stored_valid : ((k : ℕ) → 1 ≤ k → k ≤ r.table.count → stored_totals r k ≡ totals_in r k) → valid_totals r ≡ true
  unfolding valid_totals
  stored_valid f =
      each_all (λ q. same_totals (stored_totals r (q + 1)) (totals_in r (q + 1))) r.table.count
      (λ q l. same_self (stored_totals r (q + 1)) (totals_in r (q + 1)) (f (q + 1) (omega arith) (omega arith)))

-- ---- counting

module _ (r : Run) where
  -- rows begun with position 0, and counted
  pub counted_by_lem : {begun totals : List Totals} → begun ≡ zero_totals r.table r.overall r.totals → totals ≡ row_totals r.table.count (min r.count most_events) r.cells begun → totals ≡ counted_totals r
  unfolding counted_totals
  counted_by_lem e h =
      h
      ∙ ap (row_totals r.table.count (min r.count most_events) r.cells) e
      ∙ rows_counted r.table (min r.count most_events) r.cells r.overall r.totals (omega arith)

  pub counted_length : length (counted_totals r) ≡ length r.totals
  unfolding counted_totals
  counted_length = length_map_from _ 0 r.totals

  module _ (k : ℕ) (low : 1 ≤ k) (high : k ≤ length r.totals) where
    slot : stored_totals (counted r) k ≡ cond (ltb (k - 1) r.table.count) (totals_by (standing_at r k) (min r.count most_events)) (stored_totals r k)
    unfolding counted_totals
    slot =
        let e : k - 1 + 1 ≡ k = omega arith in
        get_or_map_from _ 0 r.totals (k - 1) no_totals (omega arith) ∙ rw (zero-add (k - 1), e) refl

    -- a slot past the rules stays
    pub counted_kept : r.table.count < k → stored_totals (counted r) k ≡ stored_totals r k
    counted_kept l = slot ∙ rw (le-ltb (k - 1) r.table.count (omega arith)) refl

    counted_is : k ≤ r.table.count → r.count ≤ most_events → stored_totals (counted r) k ≡ totals_in (counted r) k
    counted_is l few =
        let m : min r.count most_events ≡ r.count = omega arith in
        slot ∙ rw (lt-ltb (k - 1) r.table.count (omega arith), m) refl

  pub counted_valid : length r.totals ≡ most_rules → r.table.count ≤ most_rules → r.count ≤ most_events → valid_totals (counted r) ≡ true
  counted_valid size rules few =
      stored_valid (counted r) (λ k a b. counted_is k a (omega (arith, size, rules, b)) b few)

-- a valid record whose slots past the rules are 0 is what counting anew gives
pub stored_recounted : (r : Run) → valid_run r ≡ true → length r.totals ≡ most_rules → ((k : ℕ) → r.table.count < k → k ≤ most_rules → stored_totals r k ≡ no_totals) → r.totals ≡ counted_totals (with_totals r idle_totals)
stored_recounted r v size unused =
    ext_get_or no_totals r.totals _ (size ∙ sym (counted_length bare ∙ slots)) (λ k l. at k (omega (arith, l, size)) (leb (k + 1) r.table.count) refl)
  where
    bare : Run
    bare = with_totals r idle_totals

    slots : length idle_totals ≡ most_rules
    slots = length-replicate most_rules no_totals

    at : (k : ℕ) → k < most_rules → (b : Bool) → leb (k + 1) r.table.count ≡ b → get_or r.totals k no_totals ≡ get_or (counted_totals bare) k no_totals
    at k l b q = rw z at (go b q)
      where
        z : k + 1 - 1 ≡ k
        z = omega arith

        go : (b : Bool) → leb (k + 1) r.table.count ≡ b → stored_totals r (k + 1) ≡ stored_totals (counted bare) (k + 1)
        go true q =
            let rule : k + 1 ≤ r.table.count = leb-true (k + 1) r.table.count q in
            stored_is_counted r v (k + 1) (omega arith) rule
            ∙ sym (counted_is bare (k + 1) (omega arith) (omega (arith, slots)) rule (valid_parts r v).events_fit)
        go false q =
            let past : r.table.count < k + 1 = leb-false (k + 1) r.table.count q in
            unused (k + 1) past (omega arith)
            ∙ sym (counted_kept bare (k + 1) (omega arith) (omega (arith, slots)) past ∙ replicated most_rules (k + 1 - 1) no_totals)

-- where the rows passed the check, these are their totals
pub checked_are : {A : Type 0} {x y : A} (b : Bool) → Some x ≡ cond b (Some y) None → (b ≡ true) × (x ≡ y)
checked_are true e = (refl, cc)
checked_are false e = cc

-- the check compares with what it counted
pub totals_checked : (r : Run) → r.table.count ≤ most_rules → r.count ≤ most_events → {begun now : List Totals} → begun ≡ zero_totals r.table r.overall idle_totals → now ≡ row_totals r.table.count r.count r.cells begun → all_below (λ k. same_totals (get_or r.totals k no_totals) (get_or now k no_totals)) r.table.count ≡ valid_totals r
unfolding valid_totals
totals_checked r rules few {begun} {now} e h =
    all_same (λ k. same_totals (get_or r.totals k no_totals) (get_or now k no_totals)) (λ k. same_totals (stored_totals r (k + 1)) (totals_in r (k + 1))) r.table.count
    (λ k l. ap₂ same_totals (ap (λ (i : ℕ). get_or r.totals i no_totals) (back k)) (at k l))
  where
    bare : Run
    bare = with_totals r idle_totals

    back : (k : ℕ) → k ≡ k + 1 - 1
    back k = omega arith

    whole : r.count ≡ min r.count most_events
    whole = omega arith

    at : (k : ℕ) → k < r.table.count → get_or now k no_totals ≡ totals_in r (k + 1)
    at k l =
        ap (λ (u : List Totals). get_or u k no_totals) (counted_by_lem bare e (h ∙ ap (λ (n : ℕ). row_totals r.table.count n r.cells begun) whole))
        ∙ ap (λ (i : ℕ). get_or (counted_totals bare) i no_totals) (back k)
        ∙ counted_is bare (k + 1) (omega arith) (omega (arith, length-replicate most_rules no_totals, rules, l)) (omega arith) few
