-- The standings of a run by rule and position: what judging and closing make of each, and what the
-- record check says of each. Position 0 is the cycle as such.
use mathlib.Core.Path.{◌≡◌, refl, sym, ap, ◌∙◌}
use mathlib.Core.Bool.{Bool, true, false, not, cond, ◌||◌}
use mathlib.Core.List.{List, []}
use Prim.Native.Nat.{ℕ, zero, suc, ◌+◌, ◌-◌, ◌≤◌, ◌<◌}
use native.Mathlib.Omega.{arith}
use borrow.Author.Tests.{le-leb, lt-leb}
use lib.Dec.{leb}
use lib.ListN.{length, get_or, length-replicate}
use Rattle.declare.specs.declared.Rule.{Rule}
use Rattle.declare.specs.declared.Table.{Table}
use Rattle.declare.specs.declared.Standing.{Standing}
use Rattle.declare.specs.declared.Standing.TheVariants.{Idle}
use Rattle.declare.specs.Limits.{most_rules, most_events}
use Rattle.declare.specs.Overall.{is_overall}
use Rattle.declare.specs.Rules.{rule_at, is_overall_rule}
use Rattle.declare.specs.Reachability.{standing}
use Rattle.declare.specs.Steps.{carried, closed}
use Rattle.declare.specs.Standings.{is_idle}
use Rattle.declare.proofs.Carried.{only_idle}
use Rattle.declare.proofs.Zero.{activation_zero}
use Rattle.declare.proofs.Lists.{all_each, each_all, replicated}
use Rattle.declare.proofs.Exactness.{idle_elsewhere}
use Rattle.declare.proofs.Steps.{closed_decided}
use Rattle.standings.specs.declared.Cell.{Cell}
use Rattle.standings.specs.Places.{places, idle_cell, idle_overall, standing_from, standing_in, overall_in, zero_in, with_zero, place_of, in_use, changed, changed_overall}
use Rattle.standings.proofs.Places.{in_use_lem, from_one}
use Rattle.standings.proofs.Changes.{idle_everywhere, changed_length, changed_standing, changed_past, changed_kept, overall_length, overall_changed, overall_kept}
use Rattle.judge.specs.Cells.{judged, judged_at, judged_cells, judged_overall}
use Rattle.run.specs.declared.Run.{Run}
use Rattle.run.specs.Records.{events_of, horizon_of, standing_at, with_standings, valid_standing, valid_at, valid_row, events_judged, valid_standings, valid_zero, valid_overall, Sized}
use Rattle.run.specs.Start.{idle_run, new_run}
use Rattle.run.specs.Calls.{judged_run}
use Rattle.run.specs.Close.{closed_at, closed_cells, closed_overall, closed_run}

-- ---- rules about the cycle

-- of the rules of a table, the code tells
pub overall_rule : (t : Table) (k : ℕ) → k ≤ t.count → is_overall_rule t k ≡ is_overall (rule_at t k).code
unfolding is_overall_rule
overall_rule t k l = rw (le-leb k t.count l) refl

pub no_rule_lem : (t : Table) (k : ℕ) → t.count < k → is_overall_rule t k ≡ false
unfolding is_overall_rule
no_rule_lem t k l = rw (lt-leb k t.count l) refl

-- position 0 of another rule is idle
pub zero_other : (r : Run) (k : ℕ) → is_overall_rule r.table k ≡ false → standing_at r k 0 ≡ Idle
unfolding with_zero zero_in
zero_other r k o = rw o refl

pub zero_overall : (r : Run) (k : ℕ) → is_overall_rule r.table k ≡ true → standing_at r k 0 ≡ overall_in r.overall k
unfolding with_zero zero_in
zero_overall r k o = rw o refl

-- ---- start

pub overall_idle : (k : ℕ) → overall_in idle_overall k ≡ Idle
unfolding overall_in
overall_idle k = ap (λ (c : Cell). c.standing) (replicated most_rules (k - 1) idle_cell)

pub start_idle : (t : Table) (k i : ℕ) → 1 ≤ i → standing_at (new_run t) k i ≡ Idle
unfolding new_run idle_run
start_idle t k i low = from_one _ _ i low ∙ idle_everywhere places k i

-- a rule about the cycle is judged with no events
pub start_zero : (t : Table) (k : ℕ) → 1 ≤ k → k ≤ t.count → k ≤ most_rules → standing_at (new_run t) k 0 ≡ standing (rule_at t k) [] 0 0
start_zero t k low a high = go (is_overall_rule t k) refl
  where
    slots : k ≤ length idle_overall
    slots = omega (arith, length-replicate most_rules idle_cell)

    go : (o : Bool) → is_overall_rule t k ≡ o → standing_at (new_run t) k 0 ≡ standing (rule_at t k) [] 0 0
    go true q =
        unfold new_run idle_run judged_overall judged_at judged carried in
        (zero_overall (new_run t) k q
        ∙ overall_changed (is_overall_rule t) (judged_at true t [] 0) idle_overall k low slots q
        ∙ ap (λ (s : Standing). carried s (standing (rule_at t k) [] 0 0)) (overall_idle k))
    go false q =
        unfold new_run idle_run in zero_other (new_run t) k q
        ∙ sym ((idle_elsewhere (rule_at t k) [] 0 0).1 (activation_zero (rule_at t k) [] ∙ sym (overall_rule t k a) ∙ q))

pub start_unread : (t : Table) (k : ℕ) → 1 ≤ k → k ≤ most_rules → is_overall_rule t k ≡ false → get_or (new_run t).overall (k - 1) idle_cell ≡ idle_cell
unfolding new_run judged_overall
start_unread t k low high o =
    overall_kept (is_overall_rule t) _ idle_overall k low (omega (arith, length-replicate most_rules idle_cell)) o
    ∙ replicated most_rules (k - 1) idle_cell

pub start_overall : (t : Table) → length (new_run t).overall ≡ most_rules
unfolding new_run judged_overall
start_overall t = overall_length _ _ idle_overall ∙ length-replicate most_rules idle_cell

-- ---- a change of all standings

same_cell : (xs ys : List Cell) (k i : ℕ) → get_or xs (place_of k i) idle_cell ≡ get_or ys (place_of k i) idle_cell → standing_in xs k i ≡ standing_in ys k i
unfolding standing_in standing_from
same_cell xs ys k i e = ap (λ (c : Cell). c.standing) e

module _ (r : Run) (f : ℕ → ℕ → Standing → Standing) (cells : length r.cells ≡ places) (overall : length r.overall ≡ most_rules) where
  abbrev next : Run
  next = with_standings r (changed f r.table.count r.count r.cells) (changed_overall (is_overall_rule r.table) f r.overall)

  module _ (k : ℕ) (low : 1 ≤ k) (high : k ≤ most_rules) where
    -- at a position in use, if an idle position 0 of another rule stays so
    pub change_at : (is_overall_rule r.table k ≡ false → f k 0 Idle ≡ Idle) → (i : ℕ) → k ≤ r.table.count → i ≤ r.count → i ≤ most_events → standing_at next k i ≡ f k i (standing_at r k i)
    change_at idle zero a b c = go (is_overall_rule r.table k) refl
      where
        go : (o : Bool) → is_overall_rule r.table k ≡ o → standing_at next k 0 ≡ f k 0 (standing_at r k 0)
        go true q =
            let l : k ≤ length r.overall = omega (arith, overall) in
            zero_overall next k q
            ∙ overall_changed (is_overall_rule r.table) f r.overall k low l q
            ∙ ap (f k 0) (sym (zero_overall r k q))
        go false q = zero_other next k q ∙ sym (idle q) ∙ ap (f k 0) (sym (zero_other r k q))
    change_at idle (suc i) a b c =
        from_one _ _ (suc i) (omega arith)
        ∙ changed_standing f r.table.count r.count r.cells cells k (suc i) low high (omega arith) c a b
        ∙ ap (f k (suc i)) (sym (from_one _ _ (suc i) (omega arith)))

    -- past the events a standing stays
    pub change_past : (i : ℕ) → r.count < i → i ≤ most_events → standing_at next k i ≡ standing_at r k i
    change_past i a b =
        from_one _ _ i (omega arith)
        ∙ changed_past f r.table.count r.count r.cells cells k i low high (omega arith) b a
        ∙ sym (from_one _ _ i (omega arith))

    -- and so does one past the rules
    pub change_none : (i : ℕ) → r.table.count < k → i ≤ most_events → standing_at next k i ≡ standing_at r k i
    change_none zero a b = zero_other next k (no_rule_lem r.table k a) ∙ sym (zero_other r k (no_rule_lem r.table k a))
    change_none (suc i) a b =
        from_one _ _ (suc i) (omega arith)
        ∙ same_cell (changed f r.table.count r.count r.cells) r.cells k (suc i) (changed_kept f r.table.count r.count r.cells (place_of k (suc i)) (omega (arith, cells)) unused)
        ∙ sym (from_one _ _ (suc i) (omega arith))
      where
        unused : in_use r.table.count r.count (place_of k (suc i)) ≡ false
        unused = in_use_lem k (suc i) low (omega arith) b r.table.count r.count ∙ rw (lt-leb k r.table.count a) refl

    -- the cell of position 0 of another rule stays
    change_unread : is_overall_rule r.table k ≡ false → get_or next.overall (k - 1) idle_cell ≡ get_or r.overall (k - 1) idle_cell
    change_unread o = overall_kept (is_overall_rule r.table) f r.overall k low (omega (arith, overall)) o

module _ (r : Run) where
  pub judged_length : length (judged_run r).cells ≡ length r.cells
  unfolding judged_run judged_cells
  judged_length = changed_length _ r.table.count r.count r.cells

  pub closed_length : length (closed_run r).cells ≡ length r.cells
  unfolding closed_run closed_cells
  closed_length = changed_length _ r.table.count r.count r.cells

  pub judged_overall_lem : length (judged_run r).overall ≡ length r.overall
  unfolding judged_run judged_overall
  judged_overall_lem = overall_length _ _ r.overall

  pub closed_overall_lem : length (closed_run r).overall ≡ length r.overall
  unfolding closed_run closed_overall
  closed_overall_lem = overall_length _ _ r.overall

  -- a cell that is not in use stays as it is
  module _ (j : ℕ) (within : j < length r.cells) (unused : in_use r.table.count r.count j ≡ false) where
    pub judged_kept : get_or (judged_run r).cells j idle_cell ≡ get_or r.cells j idle_cell
    unfolding judged_run judged_cells
    judged_kept = changed_kept _ r.table.count r.count r.cells j within unused

    pub closed_kept : get_or (closed_run r).cells j idle_cell ≡ get_or r.cells j idle_cell
    unfolding closed_run closed_cells
    closed_kept = changed_kept _ r.table.count r.count r.cells j within unused

  module _ (size : Sized r) (k : ℕ) (low : 1 ≤ k) (high : k ≤ most_rules) where
    pub judged_standing : (i : ℕ) → k ≤ r.table.count → i ≤ r.count → i ≤ most_events → standing_at (judged_run r) k i ≡ carried (standing_at r k i) (standing (rule_at r.table k) (events_of r) (horizon_of r) i)
    unfolding judged_run judged_cells judged_overall judged_at judged carried events_of
    judged_standing i a b c = change_at r _ size.cells size.overall k low high idle i a b c
      where
        idle : is_overall_rule r.table k ≡ false → carried Idle (standing (rule_at r.table k) (events_of r) (horizon_of r) 0) ≡ Idle
        idle o = (idle_elsewhere (rule_at r.table k) (events_of r) (horizon_of r) 0).1 (activation_zero (rule_at r.table k) (events_of r) ∙ sym (overall_rule r.table k a) ∙ o)

    pub judged_past : (i : ℕ) → r.count < i → i ≤ most_events → standing_at (judged_run r) k i ≡ standing_at r k i
    unfolding judged_run judged_cells judged_overall
    judged_past i a b = change_past r _ size.cells size.overall k low high i a b

    pub judged_none : (i : ℕ) → r.table.count < k → i ≤ most_events → standing_at (judged_run r) k i ≡ standing_at r k i
    unfolding judged_run judged_cells judged_overall
    judged_none i a b = change_none r _ size.cells size.overall k low high i a b

    pub judged_unread : is_overall_rule r.table k ≡ false → get_or (judged_run r).overall (k - 1) idle_cell ≡ get_or r.overall (k - 1) idle_cell
    unfolding judged_run judged_overall
    judged_unread o = change_unread r _ size.cells size.overall k low high o

    pub closed_standing : (i : ℕ) → k ≤ r.table.count → i ≤ r.count → i ≤ most_events → standing_at (closed_run r) k i ≡ closed (rule_at r.table k) (events_of r) i (standing_at r k i)
    unfolding closed_run closed_cells closed_overall closed_at
    closed_standing i a b c = change_at r _ size.cells size.overall k low high (λ o. closed_decided (rule_at r.table k) (events_of r) 0 Idle refl) i a b c

    pub closed_past : (i : ℕ) → r.count < i → i ≤ most_events → standing_at (closed_run r) k i ≡ standing_at r k i
    unfolding closed_run closed_cells closed_overall
    closed_past i a b = change_past r _ size.cells size.overall k low high i a b

    pub closed_none : (i : ℕ) → r.table.count < k → i ≤ most_events → standing_at (closed_run r) k i ≡ standing_at r k i
    unfolding closed_run closed_cells closed_overall
    closed_none i a b = change_none r _ size.cells size.overall k low high i a b

    pub closed_unread : is_overall_rule r.table k ≡ false → get_or (closed_run r).overall (k - 1) idle_cell ≡ get_or r.overall (k - 1) idle_cell
    unfolding closed_run closed_overall
    closed_unread o = change_unread r _ size.cells size.overall k low high o

-- ---- the record check, by rule and position

-- s may stand at position i of a rule, of n events
abbrev pub valid_here : Bool → Rule → ℕ → ℕ → Standing → Bool
valid_here over r n zero s = not (is_overall r.code) || valid_zero over n s
valid_here over r n (suc i) s = valid_at over (events_judged r n) (suc i) s

-- s may stand at a position i past 0, of which those up to m are judged, of n events
abbrev pub stands_at : Bool → ℕ → ℕ → ℕ → Standing → Bool
stands_at over n m i s = cond (leb i m) (valid_standing over n s) (is_idle s)

-- idle may stand anywhere
pub idle_anywhere : (over : Bool) (n m i : ℕ) (s : Standing) → is_idle s ≡ true → stands_at over n m i s ≡ true
idle_anywhere over n m i s h = rw (only_idle s h) (go (leb i m))
  where
    go : (b : Bool) → cond b true true ≡ true
    go true = refl
    go false = refl

module _ (over : Bool) (r : Run) where
  abbrev t : Table
  t = r.table

  -- rule k may stand so at position 0
  abbrev zero_may : ℕ → Bool
  zero_may k = not (is_overall_rule t k) || valid_zero over r.count (overall_in r.overall k)

  event_each : valid_standings over t r.count r.cells ≡ true → (k j : ℕ) → 1 ≤ k → k ≤ t.count → j < 256 → valid_here over (rule_at t k) r.count (suc j) (standing_at r k (suc j)) ≡ true
  unfolding valid_standings valid_row with_zero
  event_each v k j a b c =
      let e : k - 1 + 1 ≡ k = omega arith in
      let f : j + 1 ≡ suc j = omega arith in
      rw (e, f)
      at (all_each (λ p. valid_at over (events_judged (rule_at t (k - 1 + 1)) r.count) (p + 1) (standing_in r.cells (k - 1 + 1) (p + 1))) 256 (all_each (λ q. valid_row over (events_judged (rule_at t (q + 1)) r.count) r.cells (q + 1)) t.count v (k - 1) (omega arith)) j c)

  zero_each : valid_overall over t r.count r.overall ≡ true → (k : ℕ) → 1 ≤ k → k ≤ t.count → valid_here over (rule_at t k) r.count 0 (standing_at r k 0) ≡ true
  unfolding valid_overall
  zero_each w k a b = go (is_overall (rule_at t k).code) refl
    where
      go : (o : Bool) → is_overall (rule_at t k).code ≡ o → (not o || valid_zero over r.count (standing_at r k 0)) ≡ true
      go true q =
          let e : k - 1 + 1 ≡ k = omega arith in
          let h : zero_may k ≡ true = rw e at (all_each (λ q. zero_may (q + 1)) t.count w (k - 1) (omega arith)) in
          ap (valid_zero over r.count) (zero_overall r k (overall_rule t k b ∙ q)) ∙ (rw (overall_rule t k b, q) at h)
      go false q = refl

  pub standings_each : valid_standings over t r.count r.cells ≡ true → valid_overall over t r.count r.overall ≡ true → (k i : ℕ) → 1 ≤ k → k ≤ t.count → i ≤ 256 → valid_here over (rule_at t k) r.count i (standing_at r k i) ≡ true
  standings_each v w k zero a b d = zero_each w k a b
  standings_each v w k (suc i) a b d = event_each v k i a b d

  module _ (f : (k i : ℕ) → 1 ≤ k → k ≤ t.count → i ≤ 256 → valid_here over (rule_at t k) r.count i (standing_at r k i) ≡ true) where
    each_row : valid_standings over t r.count r.cells ≡ true
    unfolding valid_standings valid_row with_zero
    each_row =
        each_all (λ k. valid_row over (events_judged (rule_at t (k + 1)) r.count) r.cells (k + 1)) t.count
        (λ k a. each_all (λ p. valid_at over (events_judged (rule_at t (k + 1)) r.count) (p + 1) (standing_in r.cells (k + 1) (p + 1))) 256
        (λ p b.
        let e : p + 1 ≡ suc p = omega arith in
        rw e (f (k + 1) (suc p) (omega arith) (omega arith) (omega arith))))

    each_zero : valid_overall over t r.count r.overall ≡ true
    unfolding valid_overall
    each_zero = each_all (λ k. zero_may (k + 1)) t.count (λ k a. go (k + 1) (omega arith) (omega arith) (is_overall_rule t (k + 1)) refl)
      where
        go : (k : ℕ) → 1 ≤ k → k ≤ t.count → (o : Bool) → is_overall_rule t k ≡ o → zero_may k ≡ true
        go k low l true q =
            let o : is_overall (rule_at t k).code ≡ true = sym (overall_rule t k l) ∙ q in
            let z : valid_zero over r.count (standing_at r k 0) ≡ true = rw o at (f k 0 low l (omega arith)) in
            rw q (ap (valid_zero over r.count) (sym (zero_overall r k q)) ∙ z)
        go k low l false q = rw q refl

    pub each_standings : (valid_standings over t r.count r.cells ≡ true) × (valid_overall over t r.count r.overall ≡ true)
    each_standings = (each_row, each_zero)
