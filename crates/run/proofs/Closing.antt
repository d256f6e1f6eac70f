-- What closing makes of one cell: an open one in use is decided without a target, any other stays.
use mathlib.Core.Path.{◌≡◌, refl, sym, ap, subst, ◌∙◌}
use mathlib.Core.Bool.{Bool, true, false, not, cond, ◌||◌, true≢false}
use mathlib.Core.List.{List}
use Prim.Native.Nat.{ℕ, ◌+◌, ◌-◌, ◌/◌, ◌%◌, ◌≤◌, ◌<◌}
use native.Mathlib.Nat.{zero-add}
use native.Mathlib.Omega.{arith}
use borrow.Author.Tests.{leb-true, not-true}
use lib.Dec.{leb}
use lib.ListN.{length, get_or}
use lib.Seq.{ext_get_or}
use Rattle.declare.specs.declared.Event.{Event}
use Rattle.declare.specs.declared.Rule.{Rule}
use Rattle.declare.specs.declared.Table.{Table}
use Rattle.declare.specs.declared.Standing.{Standing}
use Rattle.declare.specs.declared.Standing.TheVariants.{Idle, Open, Fulfilled, Violated}
use Rattle.declare.specs.Lists.{map_from}
use Rattle.declare.specs.Overall.{is_overall}
use Rattle.declare.specs.Rules.{no_rule, rule_at, is_overall_rule}
use Rattle.declare.specs.Templates.{polarity_of}
use Rattle.declare.specs.Verdicts.{decided, verdict}
use Rattle.declare.specs.Standings.{is_idle, is_open}
use Rattle.declare.specs.Steps.{carried, closed}
use Rattle.declare.proofs.Booleans.{and_left, and_right}
use Rattle.declare.proofs.Lists.{all_each}
use Rattle.declare.proofs.Sweeps.{get_or_map_from, length_map_from}
use Rattle.declare.proofs.Zero.{activation_zero, closing_zero, closing_event}
use Rattle.declare.proofs.Exactness.{verdict_is}
use Rattle.declare.proofs.Steps.{closed_decided}
use Rattle.standings.specs.declared.Cell.{Cell}
use Rattle.standings.specs.Places.{idle_cell, overall_in, overall_cell, changed_overall, in_use, changed_cell}
use Rattle.standings.proofs.Places.{place_in_use}
use Rattle.judge.specs.Cells.{judged, judged_at, judged_overall}
use Rattle.run.specs.declared.Run.{Run}
use Rattle.run.specs.Records.{events_of, valid_standing, valid_zero, valid_overall, valid_run}
use Rattle.run.specs.Close.{closed_at, closed_overall}
use Rattle.run.proofs.Bounds.{valid_parts}

-- an event's standing
closed_event : (r : Rule) (es : List Event) (i : ℕ) (s : Standing) → 1 ≤ i → closed r es i s ≡ cond (is_open s) (decided (polarity_of r) 0) s
unfolding closed
closed_event r es i Idle low = refl
closed_event r es i Open low = closing_event r es i low
closed_event r es i (Fulfilled j) low = refl
closed_event r es i (Violated j) low = refl

module _ (t : Table) (es : List Event) (count j : ℕ) (c : Cell) where
  pub cell_unused : in_use t.count count j ≡ false → changed_cell (closed_at t es) t.count count j c ≡ c
  unfolding changed_cell
  cell_unused u = rw u

  pub cell_idle : c.standing ≡ Idle → changed_cell (closed_at t es) t.count count j c ≡ c
  unfolding changed_cell closed_at
  cell_idle h = go (in_use t.count count j)
    where
      go : (used : Bool) → cond used (record { standing = closed (rule_at t (j / 256 + 1)) es (j % 256 + 1) c.standing }) c ≡ c
      go true =
          ap (λ (s : Standing). record { standing = s }) (closed_decided (rule_at t (j / 256 + 1)) es (j % 256 + 1) c.standing (ap is_open h))
      go false = refl

  pub cell_closed : j / 256 < t.count → j % 256 < count → {s : Standing} → s ≡ cond (is_open c.standing) (decided (polarity_of (get_or t.rules (j / 256) no_rule)) 0) c.standing → record { standing = s } ≡ changed_cell (closed_at t es) t.count count j c
  unfolding changed_cell closed_at rule_at
  cell_closed a b {s} e =
      let n : j / 256 + 1 - 1 ≡ j / 256 = omega arith in
      rw (place_in_use t.count count j a b, n, e)
      (ap (λ (x : Standing). record { standing = x }) (sym (closed_event (get_or t.rules (j / 256) no_rule) es (j % 256 + 1) c.standing (omega arith))))

-- ---- position 0

-- of a standing that is not idle: an open one is decided by the formula, any other is carried over
decides : (rule : Rule) (es : List Event) (s : Standing) → is_overall rule.code ≡ true → is_idle s ≡ false → carried s (verdict rule es 0) ≡ closed rule es 0 s
unfolding carried closed
decides rule es Idle o n = absurd (true≢false n)
decides rule es Open o n = verdict_is rule es 0 (activation_zero rule es ∙ o) ∙ sym (closing_zero rule es)
decides rule es (Fulfilled j) o n = refl
decides rule es (Violated j) o n = refl

module _ (r : Run) (v : valid_run r ≡ true) where
  abbrev of : ℕ → Bool
  of = is_overall_rule r.table

  -- a valid record is not idle there
  active : (k : ℕ) → 1 ≤ k → of k ≡ true → is_idle (overall_in r.overall k) ≡ false
  unfolding valid_overall is_overall_rule
  active k low o =
      let l : k ≤ r.table.count = leb-true k r.table.count (and_left (leb k r.table.count) (is_overall (rule_at r.table k).code) o) in
      let e : k - 1 + 1 ≡ k = omega arith in
      let h = rw (e, o) at (all_each (λ q. not (of (q + 1)) || valid_zero r.closed r.count (overall_in r.overall (q + 1))) r.table.count (valid_parts r v).overall (k - 1) (omega arith)) in
      not-true _ (and_left (not (is_idle (overall_in r.overall k))) (valid_standing r.closed r.count (overall_in r.overall k)) h)

  cell_alike : (k : ℕ) → overall_cell of (judged_at false r.table (events_of r) 0) k (get_or r.overall k idle_cell) ≡ overall_cell of (closed_at r.table (events_of r)) k (get_or r.overall k idle_cell)
  unfolding overall_cell judged_at judged closed_at
  cell_alike k = go (of (k + 1)) refl
    where
      c : Cell
      c = get_or r.overall k idle_cell

      rule : Rule
      rule = rule_at r.table (k + 1)

      go : (o : Bool) → of (k + 1) ≡ o → cond o (record { standing = carried c.standing (verdict rule (events_of r) 0) }) c ≡ cond o (record { standing = closed rule (events_of r) 0 c.standing }) c
      go true q =
          let z : k + 1 - 1 ≡ k = omega arith in
          let n : is_idle c.standing ≡ false = subst (λ (i : ℕ). is_idle (get_or r.overall i idle_cell).standing ≡ false) z (unfold overall_in in active (k + 1) (omega arith) q) in
          let o : is_overall rule.code ≡ true = unfold is_overall_rule in and_right (leb (k + 1) r.table.count) (is_overall rule.code) q in
          ap (λ (s : Standing). record { standing = s }) (decides rule (events_of r) c.standing o n)
      go false q = refl

  -- so closing judges anew
  pub closes_overall : judged_overall false r.table r.events r.count 0 r.overall ≡ closed_overall r.table (events_of r) r.overall
  unfolding judged_overall closed_overall changed_overall events_of
  closes_overall = ext_get_or idle_cell _ _ (length_map_from f 0 r.overall ∙ sym (length_map_from g 0 r.overall)) here
    where
      f : ℕ → Cell → Cell
      f = overall_cell of (judged_at false r.table (events_of r) 0)

      g : ℕ → Cell → Cell
      g = overall_cell of (closed_at r.table (events_of r))

      here : (k : ℕ) → k < length (map_from f 0 r.overall) → get_or (map_from f 0 r.overall) k idle_cell ≡ get_or (map_from g 0 r.overall) k idle_cell
      here k h =
          let l : k < length r.overall = omega (arith, length_map_from f 0 r.overall) in
          get_or_map_from f 0 r.overall k idle_cell l
          ∙ ap (λ (i : ℕ). f i (get_or r.overall k idle_cell)) (zero-add k)
          ∙ cell_alike k
          ∙ sym (ap (λ (i : ℕ). g i (get_or r.overall k idle_cell)) (zero-add k))
          ∙ sym (get_or_map_from g 0 r.overall k idle_cell l)
