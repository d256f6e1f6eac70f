-- Laws of the loops that check a record: one event more, two lists side by side, and the cells in
-- flat order as rows.
use mathlib.Core.Path.{◌≡◌, refl, sym, ap, ◌∙◌}
use mathlib.Core.Bool.{Bool, true, false, cond, ◌&&◌, and-true, and_assoc, true≢false}
use mathlib.Core.List.{List, [], ◌∷◌}
use Rattle.std.specs.List.{list_all, zip}
use Prim.Native.Nat.{ℕ, zero, suc, ◌+◌, ◌*◌, ◌/◌, ◌%◌, ◌≤◌, ◌<◌, zero-le}
use native.Mathlib.Omega.{arith}
use borrow.Author.Tests.{lt-leb, leb-true}
use native.Mathlib.Nat.{not-suc-le-zero, le_of_suc-le-suc}
use native.Mathlib.Numerals.{add-one}
use lib.Pointwise.{pointwise}
use lib.Dec.{leb}
use lib.ListN.{length, get_or, take}
use lib.Seq.{take-suc}
use Rattle.declare.specs.declared.Event.{Event}
use Rattle.declare.specs.declared.Rule.{Rule}
use Rattle.declare.specs.declared.Table.{Table}
use Rattle.declare.specs.declared.Standing.{Standing}
use Rattle.declare.specs.Standings.{is_idle}
use Rattle.declare.specs.Overall.{is_overall}
use Rattle.declare.specs.Rules.{rule_at}
use Rattle.declare.specs.Lists.{all, all_below}
use Rattle.declare.specs.Events.{well_formed, non_falling_from, non_falling, last_from, last_time, no_event}
use Rattle.standings.specs.declared.Cell.{Cell}
use Rattle.standings.specs.Places.{idle_cell, standing_in}
use Rattle.standings.proofs.Same.{standing_at_lem}
use Rattle.run.specs.Records.{valid_standing, valid_at, valid_row, events_judged, valid_standings}
use Rattle.declare.proofs.Lists.{all_more, all_same, all_rows, falls_more, last_more}
use Rattle.run.proofs.Places.{stands_at}

-- ---- the events: well-formed so far, and their times have not fallen

pub record Followed (events : List Event) (n : ℕ) (valid : Bool) (last : ℕ) : Type 0 where
  pub so_far : valid ≡ (all well_formed (take n events) && non_falling (take n events))
  pub time : last ≡ last_time (take n events)

pub followed_none : (events : List Event) → Followed events 0 true 0
unfolding all non_falling non_falling_from last_time last_from
followed_none events = record { so_far = refl; time = refl }

-- one more event
pub followed_again : {events : List Event} {n : ℕ} {valid : Bool} {last : ℕ} → Followed events n valid last → n < length events → {w : Bool} → w ≡ well_formed (get_or events n no_event) →
    Followed events (n + 1) (valid && w && leb last (get_or events n no_event).time) (get_or events n no_event).time
followed_again {events} {n} f h e =
    let x : Event = get_or events n no_event in
    rw add-one
    (record {
      so_far =
          rw (f.so_far, f.time, e, all_more well_formed events n no_event h, take-suc events n no_event h, falls_more (take n events) x)
          (regrouped (all well_formed (take n events)) (non_falling (take n events)) (well_formed x) (leb (last_time (take n events)) x.time));
      time = rw (take-suc events n no_event h) (sym (last_more (take n events) x));
    })
  where
    regrouped : (a b c d : Bool) → ((a && b) && c && d) ≡ ((a && c) && (b && d))
    regrouped false b c d = refl
    regrouped true false false d = refl
    regrouped true false true d = refl
    regrouped true true c d = refl

-- ---- two lists side by side

-- the places below n from the front on
all_first : (p : ℕ → Bool) (n : ℕ) → all_below p (suc n) ≡ (p 0 && all_below (λ k. p (suc k)) n)
unfolding all_below
all_first p zero = sym (and-true (p 0))
all_first p (suc n) = ap (λ t. t && p (suc n)) (all_first p n) ∙ and_assoc (p 0) (all_below (λ k. p (suc k)) n) (p (suc n))

-- their first n elements, compared
pub same_below : {A B : Type 0} (E : A → B → Bool) (n : ℕ) (xs : List A) (ys : List B) (d : A) (e : B) → n ≤ length xs → n ≤ length ys → pointwise E (take n xs) (take n ys) ≡ all_below (λ k. E (get_or xs k d) (get_or ys k e)) n
unfolding all_below
same_below E zero xs ys d e h l = refl
same_below E (suc n) [] ys d e h l = absurd (not-suc-le-zero h)
same_below E (suc n) (x ∷ xs) [] d e h l = absurd (not-suc-le-zero l)
same_below E (suc n) (x ∷ xs) (y ∷ ys) d e h l =
    ap (λ t. E x y && t) (same_below E n xs ys d e (le_of_suc-le-suc h) (le_of_suc-le-suc l))
    ∙ sym (all_first (λ k. E (get_or (x ∷ xs) k d) (get_or (y ∷ ys) k e)) n)

-- the first n pairs, tested
pub zipped_below : {A B : Type 0} (p : A × B → Bool) (n : ℕ) (xs : List A) (ys : List B) (d : A) (e : B) → n ≤ length xs → n ≤ length ys → list_all p (zip (take n xs) ys) ≡ all_below (λ k. p (get_or xs k d, get_or ys k e)) n
unfolding all_below
zipped_below p zero xs ys d e h l = refl
zipped_below p (suc n) [] ys d e h l = absurd (not-suc-le-zero h)
zipped_below p (suc n) (x ∷ xs) [] d e h l = absurd (not-suc-le-zero l)
zipped_below p (suc n) (x ∷ xs) (y ∷ ys) d e h l =
    ap (λ t. p (x, y) && t) (zipped_below p n xs ys d e (le_of_suc-le-suc h) (le_of_suc-le-suc l))
    ∙ sym (all_first (λ k. p (get_or (x ∷ xs) k d, get_or (y ∷ ys) k e)) n)

-- ---- rows

-- no more events are judged than there are
pub judged_most : (rule : Rule) (n : ℕ) → events_judged rule n ≤ n
unfolding events_judged
judged_most rule n = go (is_overall rule.code)
  where
    go : (o : Bool) → cond o 0 n ≤ n
    go true = zero-le
    go false = omega arith

-- what is not idle stands where it is judged
pub stands_judged : (over : Bool) (n m i : ℕ) (s : Standing) → stands_at over n m i s ≡ true → is_idle s ≡ false → i ≤ m
stands_judged over n m i s h active = go (leb i m) refl h
  where
    go : (b : Bool) → leb i m ≡ b → cond b (valid_standing over n s) (is_idle s) ≡ true → i ≤ m
    go true q h = leb-true i m q
    go false q h = absurd (true≢false (sym h ∙ active))

-- the places of the rows, in flat order
pub flat_standings : (closed : Bool) (t : Table) (count : ℕ) (cells : List Cell) → all_below (λ j. valid_at closed (events_judged (rule_at t (j / 256 + 1)) count) (j % 256 + 1) (get_or cells j idle_cell).standing) (t.count * 256) ≡ valid_standings closed t count cells
unfolding valid_standings valid_row
flat_standings closed t count cells =
    all_same _ (λ j. at (j / 256) (j % 256)) (t.count * 256) (λ j l. ap (λ (s : Standing). valid_at closed (events_judged (rule_at t (j / 256 + 1)) count) (j % 256 + 1) s) (sym (standing_at_lem cells j)))
    ∙ all_rows at t.count
  where
    at : ℕ → ℕ → Bool
    at k p = valid_at closed (events_judged (rule_at t (k + 1)) count) (p + 1) (standing_in cells (k + 1) (p + 1))

-- under a rule all events are judged, or none
stands_valid : (closed : Bool) (r : Rule) (n p : ℕ) (s : Standing) → stands_at closed n (events_judged r n) (p + 1) s ≡ valid_at closed (events_judged r n) (p + 1) s
unfolding events_judged valid_at
stands_valid closed r n p s = go (is_overall r.code)
  where
    go : (o : Bool) → stands_at closed n (cond o 0 n) (p + 1) s ≡ stands_at closed (cond o 0 n) (cond o 0 n) (p + 1) s
    go true = rw (lt-leb (p + 1) 0 (omega arith)) refl
    go false = refl

-- so each target may be held against the event count itself
pub flat_stands_at : (closed : Bool) (t : Table) (count : ℕ) (cells : List Cell) → all_below (λ j. stands_at closed count (events_judged (rule_at t (j / 256 + 1)) count) (j % 256 + 1) (get_or cells j idle_cell).standing) (t.count * 256) ≡ valid_standings closed t count cells
flat_stands_at closed t count cells =
    all_same _ _ (t.count * 256) (λ j l. stands_valid closed (rule_at t (j / 256 + 1)) count (j % 256) _)
    ∙ flat_standings closed t count cells
