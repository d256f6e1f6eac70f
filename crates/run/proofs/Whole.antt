-- A run by its rules, its events and its kept time is the one whose standings are judged at once,
-- running or closed.
--
-- Both stand alike where a cell is in use, and are idle elsewhere; and a valid run has the totals
-- that count it.
use mathlib.Core.Path.{◌≡◌, refl, sym, ap, ◌∙◌}
use mathlib.Core.Logic.{◌⊎◌, ⊎_elim}
use mathlib.Core.Bool.{Bool, true, false, cond}
use mathlib.Core.List.{List}
use Prim.Native.Nat.{ℕ, zero, suc, ◌-◌, ◌≤◌, ◌<◌, zero-le}
use native.Mathlib.Omega.{arith}
use borrow.Author.Tests.{leb-true, not-false}
use lib.Dec.{leb}
use lib.ListN.{length, get_or, take, replicate, length-append, length-replicate}
use lib.Seq.{take-append_seam}
use Rattle.declare.specs.declared.Event.{Event}
use Rattle.declare.specs.declared.Rule.{Rule}
use Rattle.declare.specs.declared.Table.{Table}
use Rattle.declare.specs.declared.Standing.{Standing}
use Rattle.declare.specs.declared.Standing.TheVariants.{Idle}
use Rattle.declare.specs.Limits.{most_rules, most_events}
use Rattle.declare.specs.Events.{empty_slot}
use Rattle.declare.specs.Overall.{is_overall}
use Rattle.declare.specs.Rules.{rule_at, is_overall_rule, valid_table}
use Rattle.declare.specs.Slots.{padded, event_slots}
use Rattle.declare.specs.Suits.{activation_at}
use Rattle.declare.specs.Continuations.{Course, horizon}
use Rattle.declare.specs.Steps.{carried}
use Rattle.declare.proofs.Booleans.{and_left}
use Rattle.declare.proofs.Zero.{activation_zero}
use Rattle.declare.proofs.Exactness.{verdict_active, idle_elsewhere}
use Rattle.declare.proofs.Carried.{only_idle}
use Rattle.declare.proofs.Lists.{replicated}
use Rattle.declare.proofs.Tables.{rules_within}
use Rattle.standings.specs.declared.Cell.{Cell}
use Rattle.standings.specs.Places.{places, idle_cell, idle_cells, idle_overall, overall_in, standing_in, zero_in, with_zero, in_use}
use Rattle.standings.specs.Totals.{no_totals, idle_totals}
use Rattle.standings.proofs.Places.{from_one}
use Rattle.standings.proofs.Changes.{changed_length, changed_kept, idle_everywhere, overall_length, overall_kept}
use Rattle.standings.proofs.Same.{same_cells, same_overall}
use Rattle.judge.specs.Cells.{judged, judged_at, judged_cells, judged_overall}
use Rattle.run.specs.declared.Run.{Run}
use Rattle.run.specs.Records.{events_of, standing_at, stored_totals, with_events, with_clock, with_standings, with_totals, counted_totals, counted}
use Rattle.run.specs.Start.{idle_run}
use Rattle.run.specs.Calls.{judged_run}
use Rattle.run.specs.Close.{running_run, finished_run}
use Rattle.run.specs.Grown.{RunOf, running, finished}
use Rattle.run.specs.Words.{Placed}
use Rattle.run.proofs.Places.{overall_rule, zero_overall, overall_idle, change_at, change_past, change_none}
use Rattle.run.proofs.Stored.{counted_length, counted_kept, stored_recounted}

-- ---- the slots of a list of events

pub slots_of : (es : List Event) → length es ≤ most_events → length (event_slots es) ≡ most_events
unfolding padded
slots_of es few = simp (length-append, length-replicate) (omega arith)

pub first_events : (es : List Event) → take (length es) (event_slots es) ≡ es
unfolding padded
first_events es = take-append_seam es (replicate (most_events - length es) empty_slot)

-- ---- a whole cycle judged at once: a cell in use is judged, every other is idle

judged_idle : (runs : Bool) (r : Rule) (es : List Event) (h i : ℕ) → activation_at r es i ≡ false → judged runs r es h i ≡ Idle
unfolding judged
judged_idle true r es h i none = (idle_elsewhere r es h i).1 none
judged_idle false r es h i none = only_idle _ (not-false _ (verdict_active r es i ∙ none))

module _ (t : Table) (es : List Event) (runs : Bool) (h : ℕ) where
  size : length idle_cells ≡ places
  size = length-replicate places idle_cell

  overall_size : length idle_overall ≡ most_rules
  overall_size = length-replicate most_rules idle_cell

  abbrev whole_cells : List Cell
  whole_cells = judged_cells runs t (event_slots es) (length es) h idle_cells

  pub whole_length : length whole_cells ≡ places
  unfolding judged_cells
  whole_length = changed_length _ t.count (length es) idle_cells ∙ size

  whole_idle : (j : ℕ) → j < places → in_use t.count (length es) j ≡ false → get_or whole_cells j idle_cell ≡ idle_cell
  unfolding judged_cells
  whole_idle j l u = changed_kept _ t.count (length es) idle_cells j (rw size l) u ∙ replicated places j idle_cell

  abbrev whole_overall : List Cell
  whole_overall = judged_overall runs t (event_slots es) (length es) h idle_overall

  pub whole_overall_lem : length whole_overall ≡ most_rules
  unfolding judged_overall
  whole_overall_lem = overall_length _ _ idle_overall ∙ overall_size

  pub whole_unread : (k : ℕ) → 1 ≤ k → k ≤ most_rules → is_overall_rule t k ≡ false → get_or whole_overall (k - 1) idle_cell ≡ idle_cell
  unfolding judged_overall
  whole_unread k low high o =
      overall_kept (is_overall_rule t) _ idle_overall k low (omega (arith, overall_size)) o ∙ replicated most_rules (k - 1) idle_cell

  -- all idle before they are judged
  abbrev before : Run
  before = with_events (idle_run t) (length es) (event_slots es)

  before_idle : (k i : ℕ) → standing_at before k i ≡ Idle
  unfolding with_zero zero_in idle_run
  before_idle k zero = go (is_overall_rule t k)
    where
      go : (o : Bool) → cond o (overall_in idle_overall k) Idle ≡ Idle
      go true = overall_idle k
      go false = refl
  before_idle k (suc i) = idle_everywhere places k (suc i)

  abbrev whole : Run
  whole = with_standings before whole_cells whole_overall

  pub whole_judged : (k i : ℕ) → Placed k i → k ≤ t.count → i ≤ length es → standing_at whole k i ≡ judged runs (rule_at t k) es h i
  unfolding idle_run judged_cells judged_overall judged_at carried
  whole_judged k i p a b =
      change_at before (judged_at runs t (take (length es) (event_slots es)) h) size overall_size k p.0 p.1 idle i a b p.2
      ∙ ap (λ (s : Standing). carried s (judged runs (rule_at t k) (take (length es) (event_slots es)) h i)) (before_idle k i)
      ∙ ap (λ (l : List Event). judged runs (rule_at t k) l h i) (first_events es)
    where
      idle : is_overall_rule t k ≡ false → judged runs (rule_at t k) (take (length es) (event_slots es)) h 0 ≡ Idle
      idle o = judged_idle runs (rule_at t k) _ h 0 (activation_zero (rule_at t k) _ ∙ sym (overall_rule t k a) ∙ o)

  -- past the events and the rules all is idle
  pub whole_rest : (k i : ℕ) → 1 ≤ k → k ≤ most_rules → i ≤ most_events → ((t.count < k) ⊎ (length es < i)) → standing_at whole k i ≡ Idle
  unfolding idle_run judged_cells judged_overall
  whole_rest k i a b c u =
      ⊎_elim
      (λ l. change_none before (judged_at runs t (take (length es) (event_slots es)) h) size overall_size k a b i l c)
      (λ l. change_past before (judged_at runs t (take (length es) (event_slots es)) h) size overall_size k a b i l c)
      u
      ∙ before_idle k i

pub finished_events : (t : Table) (es : List Event) → events_of (finished_run t (length es) (event_slots es)) ≡ es
unfolding events_of finished_run
finished_events t es = first_events es

pub finished_totals : (t : Table) (es : List Event) → length (finished_run t (length es) (event_slots es)).totals ≡ most_rules
unfolding idle_run finished_run
finished_totals t es = counted_length _ ∙ length-replicate most_rules no_totals

pub finished_unused : (t : Table) (es : List Event) (k : ℕ) → t.count < k → k ≤ most_rules → stored_totals (finished_run t (length es) (event_slots es)) k ≡ no_totals
unfolding idle_run finished_run
finished_unused t es k a b =
    counted_kept _ k (omega arith) (omega (arith, length-replicate most_rules no_totals, b)) a ∙ replicated most_rules (k - 1) no_totals

-- ---- the two runs

-- a rule about the cycle is one of the table
rule_within : (t : Table) (k : ℕ) → is_overall_rule t k ≡ true → k ≤ t.count
unfolding is_overall_rule
rule_within t k o = leb-true k t.count (and_left (leb k t.count) (is_overall (rule_at t k).code) o)

-- r stands as the events es are judged
module _ (t : Table) (valid : valid_table t ≡ true) (c : Course) (few : length c.events ≤ most_events) (runs : Bool) (h : ℕ) (over : Bool) (stands : ℕ → ℕ → Standing) (r : Run) (g : RunOf t c over stands r) (judges : (k i : ℕ) → judged runs (rule_at t k) c.events h i ≡ stands k i) where
  alike : (k i : ℕ) → 1 ≤ k → k ≤ t.count → i ≤ length c.events → standing_at (whole t c.events runs h) k i ≡ standing_at r k i
  alike k i a b d =
      whole_judged t c.events runs h k i (a, omega (arith, b, rules_within t valid), omega (arith, d, few)) b d ∙ judges k i ∙ sym (g.standings k i a b d)

  same : whole_cells t c.events runs h ≡ r.cells
  unfolding with_zero
  same =
      same_cells t.count (length c.events) (whole_cells t c.events runs h) r.cells
      (record { size = whole_length t c.events runs h; idle = whole_idle t c.events runs h })
      (record { size = g.cells; idle = g.idle })
      (λ k i a b low d.
      let w = whole t c.events runs h in
      sym (from_one (zero_in w.table w.overall k) (standing_in w.cells k) i low) ∙ alike k i a b d ∙ from_one (zero_in r.table r.overall k) (standing_in r.cells k) i low)

  same_zero : whole_overall t c.events runs h ≡ r.overall
  same_zero =
      same_overall (is_overall_rule t) (whole_overall t c.events runs h) r.overall (whole_overall_lem t c.events runs h) g.overall (whole_unread t c.events runs h) g.others
      (λ k a b o.
      sym (zero_overall (whole t c.events runs h) k (unfold idle_run in o)) ∙ alike k 0 a (rule_within t k o) zero-le ∙ zero_overall r k (rw g.table o))

  -- its fields, and no totals yet
  abbrev bare : Bool → Table → ℕ → List Event → List Cell → List Cell → ℕ → Run
  bare p u n l cells overall clock =
      record { closed = p; table = u; count = n; events = l; cells = cells; overall = overall; totals = idle_totals; clock = clock }

  whole_is : counted (bare over t (length c.events) (event_slots c.events) (whole_cells t c.events runs h) (whole_overall t c.events runs h) c.clock) ≡ r
  whole_is =
      rw (same, same_zero, sym g.phase, sym g.clock, sym g.events, sym g.count)
      (ap (λ (u : Table). counted (bare r.closed u r.count r.events r.cells r.overall r.clock)) (sym g.table)
      ∙ ap (with_totals r) (sym (stored_recounted r g.valid g.totals (λ k a b. g.unused k (rw g.table at a) b))))

module _ (t : Table) (valid : valid_table t ≡ true) (c : Course) (few : length c.events ≤ most_events) (r : Run) where
  -- the events and the kept time say all of a running cycle
  pub running_is : RunOf t c false (running t c) r → running_run t (length c.events) (event_slots c.events) c.clock ≡ r
  unfolding running_run judged_run idle_run events_of
  running_is g =
      ap (λ (l : List Event). counted (with_standings now (whole_cells t c.events true (horizon (record { events = l; clock = c.clock }))) (whole_overall t c.events true (horizon (record { events = l; clock = c.clock }))))) (first_events c.events)
      ∙ whole_is t valid c few true (horizon c) false (running t c) r g (λ k i. unfold judged in refl)
    where
      now : Run
      now = with_clock (before t c.events true 0) c.clock

  -- the events alone those of a closed one
  pub finished_is : RunOf t c true (finished t c.events) r → with_clock (finished_run t (length c.events) (event_slots c.events)) c.clock ≡ r
  unfolding finished_run idle_run counted_totals
  finished_is g = whole_is t valid c few false 0 true (finished t c.events) r g (λ k i. unfold judged in refl)
