-- The definitions compute what document 01's sentences say: a test of all places says what it says
-- of each, and a change of all cells changes the cell of each rule and position as it should.
use mathlib.Core.Path.{◌≡◌, refl, sym, ap, ◌∙◌}
use mathlib.Core.Logic.{⊎_elim, inl, inr}
use mathlib.Core.Bool.{Bool, true, false, not, true≢false}
use mathlib.Core.List.{List}
use Prim.Native.Nat.{ℕ, zero, suc, ◌+◌, ◌-◌, ◌≤◌, ◌<◌}
use native.Mathlib.Omega.{arith}
use borrow.Author.Tests.{le-leb, leb-true, leb-false, not-true}
use lib.Dec.{leb}
use lib.ListN.{length, get_or, take, length-set, length-replicate, get_or-replicate}
use lib.Seq.{length-take-le, get_or-take, get_or-set_same, get_or-set_other}
use Rattle.declare.specs.declared.Event.{Event}
use Rattle.declare.specs.declared.Rule.{Rule}
use Rattle.declare.specs.declared.Table.{Table}
use Rattle.declare.specs.declared.Polarity.{Polarity}
use Rattle.declare.specs.declared.Standing.{Standing}
use Rattle.declare.specs.declared.Standing.TheVariants.{Idle, Open, Fulfilled, Violated}
use Rattle.declare.specs.Lists.{all}
use Rattle.declare.specs.Limits.{most_rules, most_events}
use Rattle.declare.specs.Events.{well_formed, non_falling, no_event, event_at, empty_slot}
use Rattle.declare.specs.Overall.{is_overall}
use Rattle.declare.specs.Rules.{no_rule, rule_at, is_overall_rule, valid_table}
use Rattle.declare.specs.Suits.{activation_at}
use Rattle.declare.specs.Slots.{padded, event_slots, table_of, empty_table}
use Rattle.declare.specs.Templates.{polarity_of}
use Rattle.declare.specs.Verdicts.{decided, verdict}
use Rattle.declare.specs.Standings.{is_idle, is_open}
use Rattle.declare.specs.Answers.{◌>>◌, require, after_call}
use Rattle.declare.specs.Steps.{carried, closed, takes, notices}
use Rattle.declare.specs.Words.{NeverFall}
use Rattle.declare.proofs.Booleans.{both, both₃, both₄, and₃}
use Rattle.declare.proofs.Zero.{not_overall, activation_zero, closing_zero, closing_event}
use Rattle.declare.proofs.Exactness.{verdict_is}
use Rattle.declare.proofs.Steps.{closed_decided}
use Rattle.declare.proofs.Words.{positive, negative, words as verdict-words}
use Rattle.declare.proofs.Lists.{all_taken, all_each, each_all, replicated}
use Rattle.standings.specs.Places.{places, idle_cell}
use Rattle.standings.specs.Totals.{no_totals}
use Rattle.judge.specs.Cells.{judged}
use Rattle.run.specs.declared.Run.{Run}
use Rattle.run.specs.Records.{events_of, standing_at, stored_totals, valid_events, valid_standing, valid_at, valid_run, Sized}
use Rattle.run.specs.Start.{idle_run, new_run, start_of, started}
use Rattle.run.specs.Calls.{entered, judged_run}
use Rattle.run.specs.Close.{closed_run, finished_run}
use Rattle.run.specs.Words.{Events, MayStand, Valid, Placed, unread, Unread, Unused, Starts, NoRules, Appends, Keeps, InUse, NotInUse, standing_now, KeepsRest, Judges, code_at, Closes, Finishes, Words}
use Rattle.run.proofs.Bounds.{valid_parts}
use Rattle.run.proofs.Places.{overall_rule, zero_other, start_idle, start_zero, start_unread, start_overall, judged_length, closed_length, judged_overall_lem, closed_overall_lem, judged_standing, judged_past, judged_none, judged_unread, closed_standing, closed_past, closed_none, closed_unread, valid_here, standings_each, each_standings}
use Rattle.run.proofs.Stored.{stored_is_counted, stored_valid, counted_length, counted_kept}
use Rattle.run.proofs.Whole.{whole_length, whole_overall_lem, whole_unread, whole_judged, whole_rest, finished_totals, finished_unused}
use Rattle.run.proofs.Validity.{idle_valid, at_valid, at_idle, taken_valid, past_valid, here_judged, here_idle, here_event, idle_here, zero_here, zero_valid, not_idle, started_valid, call_valid, close_valid}

-- ---- the events of a record

module _ (events : List Event) (n : ℕ) (room : n ≤ length events) where
  same_event : (i : ℕ) → 1 ≤ i → i ≤ n → event_at (take n events) i ≡ event_at events i
  unfolding event_at
  same_event i a b = get_or-take n events (i - 1) no_event (omega arith)

  formed→ : all well_formed (take n events) ≡ true → (i : ℕ) → 1 ≤ i → i ≤ n → well_formed (event_at events i) ≡ true
  unfolding event_at
  formed→ h i a b = all_each (λ p. well_formed (get_or events p no_event)) n (all_taken well_formed events n no_event room ∙ h) (i - 1) (omega arith)

  formed← : ((i : ℕ) → 1 ≤ i → i ≤ n → well_formed (event_at events i) ≡ true) → all well_formed (take n events) ≡ true
  unfolding event_at
  formed← f = sym (all_taken well_formed events n no_event room) ∙ each_all (λ p. well_formed (get_or events p no_event)) n at
    where
      at : (p : ℕ) → p < n → well_formed (get_or events p no_event) ≡ true
      at p l = let e : p + 1 - 1 ≡ p = omega arith in rw e at (f (p + 1) (omega arith) (omega arith))

  order→ : non_falling (take n events) ≡ true → (i : ℕ) → 1 ≤ i → i < n → (event_at events i).time ≤ (event_at events (i + 1)).time
  order→ h i a b =
      let size : length (take n events) ≡ n = length-take-le n events room in
      rw (same_event i a (omega arith), same_event (i + 1) (omega arith) (omega arith))
      at ((verdict-words.times (take n events)).0 h i a (omega arith))

  order← : ((i : ℕ) → 1 ≤ i → i < n → (event_at events i).time ≤ (event_at events (i + 1)).time) → non_falling (take n events) ≡ true
  order← f = (verdict-words.times (take n events)).1 at
    where
      size : length (take n events) ≡ n
      size = length-take-le n events room

      at : NeverFall (take n events)
      at i a b =
          let l : i < n = omega (arith, size) in
          rw (same_event i a (omega arith), same_event (i + 1) (omega arith) (omega arith)) (f i a l)

-- ---- a standing

module _ (over : Bool) (rule : Rule) (count i : ℕ) where
  may→ : (s : Standing) → valid_here over rule count i s ≡ true → (i ≡ 0 → is_overall rule.code ≡ false → is_idle s ≡ true) → MayStand over rule count i s
  may→ s v other = go i refl v
    where
      stands : valid_standing over count s ≡ true → (count < i → is_idle s ≡ true) → (is_overall rule.code ≡ true → i ≡ 0 → is_idle s ≡ false) → (is_overall rule.code ≡ true → 1 ≤ i → is_idle s ≡ true) → MayStand over rule count i s
      stands w past judged at_events =
          record {
            fulfilled = λ j e. leb-true j count (holds (Fulfilled j) e);
            violated = λ j e. leb-true j count (holds (Violated j) e);
            running = λ e. not-true over (holds Open e);
            idle = past;
            judged = judged;
            at_events = at_events;
          }
        where
          holds : (u : Standing) → s ≡ u → valid_standing over count u ≡ true
          holds u e = sym (ap (valid_standing over count) e) ∙ w

      go : (j : ℕ) → i ≡ j → valid_here over rule count j s ≡ true → MayStand over rule count i s
      go zero e v = zero_case (is_overall rule.code) refl
        where
          zero_case : (o : Bool) → is_overall rule.code ≡ o → MayStand over rule count i s
          zero_case true q =
              let p = not_idle over count s (here_judged rule over count s q v) in
              stands p.1 (λ l. absurd (omega arith)) (λ _ _. p.0) (λ _ l. absurd (omega arith))
          zero_case false q =
              stands (idle_valid over count s (other e q)) (λ l. absurd (omega arith)) (λ o. absurd (true≢false (sym o ∙ q))) (λ o. absurd (true≢false (sym o ∙ q)))
      go (suc j) e v = event_case (is_overall rule.code) refl
        where
          event_case : (o : Bool) → is_overall rule.code ≡ o → MayStand over rule count i s
          event_case true q =
              let z : is_idle s ≡ true = here_idle rule over count j s q v in
              stands (idle_valid over count s z) (λ _. z) (λ _ l. absurd (omega arith)) (λ _ _. z)
          event_case false q =
              let w : valid_at over count (suc j) s ≡ true = sym (here_event rule over count j s q) ∙ v in
              stands (at_valid over count (suc j) s w) (λ l. at_idle over count (suc j) s (omega arith) w) (λ o. absurd (true≢false (sym o ∙ q))) (λ o. absurd (true≢false (sym o ∙ q)))

  may← : (s : Standing) → MayStand over rule count i s → valid_here over rule count i s ≡ true
  may← s m = go i refl
    where
      taken : (u : Standing) → s ≡ u → valid_standing over count u ≡ true
      taken Idle e = refl
      taken Open e = ap not (m.running e)
      taken (Fulfilled j) e = le-leb j count (m.fulfilled j e)
      taken (Violated j) e = le-leb j count (m.violated j e)

      go : (j : ℕ) → i ≡ j → valid_here over rule count j s ≡ true
      go zero e = zero_here rule over count s (λ o. zero_valid over count s (m.judged o e) (taken s refl))
      go (suc j) e = event_case (is_overall rule.code) refl (leb (suc j) count) refl
        where
          event_case : (o : Bool) → is_overall rule.code ≡ o → (b : Bool) → leb (suc j) count ≡ b → valid_here over rule count (suc j) s ≡ true
          event_case true q b r = idle_here rule over count j s (m.at_events q (omega arith))
          event_case false q true r = here_event rule over count j s q ∙ taken_valid over count (suc j) s (leb-true (suc j) count r) (taken s refl)
          event_case false q false r =
              let l : count < suc j = leb-false (suc j) count r in
              here_event rule over count j s q ∙ past_valid over count (suc j) s l (m.idle (omega arith))

-- ---- the record

events_are : (r : Run) → Sized r → r.count ≤ most_events → Events r (events_of r)
unfolding events_of
events_are r size most =
    let room : r.count ≤ length r.events = omega (arith, most, size.events) in
    record { size = length-take-le r.count r.events room; same = same_event r.events r.count room }

valid→ : (r : Run) → Sized r → valid_run r ≡ true → Valid r
unfolding valid_events
valid→ r size v =
    let p = valid_parts r v in
    let room : r.count ≤ length r.events = omega (arith, p.events_fit, size.events) in
    let e : (leb r.count most_events ≡ true) × (all well_formed (take r.count r.events) ≡ true) × (non_falling (take r.count r.events) ≡ true) = and₃ p.events in
    record {
      table = p.table;
      most = p.events_fit;
      formed = formed→ r.events r.count room e.1;
      order = order→ r.events r.count room e.2;
      standings = λ k i a b d. may→ r.closed (rule_at r.table k) r.count i (standing_at r k i) (standings_each r.closed r p.standings p.overall k i a b d) (λ z o. ap is_idle (ap (standing_at r k) z ∙ zero_other r k (overall_rule r.table k b ∙ o)));
      totals = stored_is_counted r v;
    }

valid← : (r : Run) → Sized r → Valid r → valid_run r ≡ true
unfolding valid_run valid_events
valid← r size v =
    let room : r.count ≤ length r.events = omega (arith, v.most, size.events) in
    let p = each_standings r.closed r (λ k i a b d. may← r.closed (rule_at r.table k) r.count i (standing_at r k i) (v.standings k i a b d)) in
    both
    (both₄ v.table
    (both₃ (le-leb r.count most_events v.most) (formed← r.events r.count room v.formed) (order← r.events r.count room v.order))
    p.0 p.1)
    (stored_valid r v.totals)

-- ---- start

new_starts : (t : Table) → Starts t (new_run t)
unfolding new_run idle_run padded event_at empty_slot
new_starts t =
    record {
      phase = refl;
      table = refl;
      count = refl;
      slots = length-replicate most_events empty_slot;
      events = λ i a b. get_or-replicate most_events (i - 1) empty_slot no_event (omega arith);
      cells = length-replicate places idle_cell;
      overall = start_overall t;
      standings = λ k i p l. start_idle t k i l;
      judged = start_zero t;
      others = λ k u. start_unread t k u.0 u.1 u.2;
      totals = counted_length _ ∙ length-replicate most_rules no_totals;
      unused = λ k u. counted_kept _ k (omega arith) (omega (arith, length-replicate most_rules no_totals, u.1)) u.0 ∙ replicated most_rules (k - 1) no_totals;
      clock = refl;
    }

starts : (t : Table) → valid_table t ≡ true → Starts t (started t)
unfolding started start_of ◌>>◌ require after_call
starts t v = rw v (new_starts t)

none_has : NoRules empty_table
unfolding empty_table table_of padded rule_at
none_has =
    record {
      count = refl;
      slots = length-replicate most_rules no_rule;
      rules = λ k a b. get_or-replicate most_rules (k - 1) no_rule no_rule (omega arith);
    }

refuses : (t : Table) → valid_table t ≡ false → (none : Table) × NoRules none × Starts none (started t)
unfolding started start_of ◌>>◌ require after_call
refuses t v = (empty_table, none_has, rw v (new_starts empty_table))

-- ---- take, notice and close

keeps_time : (r : Run) (time : ℕ) → Keeps r time (entered r (notices time))
unfolding entered
keeps_time r time =
    record { phase = refl; table = refl; count = refl; events = refl; cells = refl; overall = refl; totals = refl; clock = refl }

module _ (r : Run) (size : Sized r) where
  appends : (e : Event) → r.count < most_events → Appends r e (entered r (takes e))
  unfolding entered event_at
  appends e room =
      record {
        phase = refl;
        table = refl;
        count = refl;
        slots = length-set r.events r.count e ∙ size.events;
        event =
            let n : r.count + 1 - 1 ≡ r.count = omega arith in
            rw n (get_or-set_same r.events r.count e no_event (omega (arith, size.events)));
        others = λ i a n. get_or-set_other r.events r.count (i - 1) e no_event (λ q. n (omega arith));
        cells = refl;
        overall = refl;
        totals = refl;
        clock = refl;
      }

  module _ (k i : ℕ) where
    -- a standing not in use stays
    judged_rest : NotInUse r k i → standing_at (judged_run r) k i ≡ standing_at r k i
    judged_rest u =
        ⊎_elim (λ l. judged_none r size k u.0.0 u.0.1 i l u.0.2) (λ l. judged_past r size k u.0.0 u.0.1 i l u.0.2) u.1

    closed_rest : NotInUse r k i → standing_at (closed_run r) k i ≡ standing_at r k i
    closed_rest u =
        ⊎_elim (λ l. closed_none r size k u.0.0 u.0.1 i l u.0.2) (λ l. closed_past r size k u.0.0 u.0.1 i l u.0.2) u.1

    -- one in use by what stands there
    judged_from : InUse r k i → {s : Standing} → standing_at r k i ≡ s → standing_at (judged_run r) k i ≡ carried s (standing_now r k i)
    judged_from u e =
        judged_standing r size k u.0.0 u.0.1 i u.1 u.2 u.0.2
        ∙ ap (λ (s : Standing). carried s (standing_now r k i)) e

    closed_from : InUse r k i → {s : Standing} → standing_at r k i ≡ s → standing_at (closed_run r) k i ≡ closed (rule_at r.table k) (events_of r) i s
    closed_from u e =
        closed_standing r size k u.0.0 u.0.1 i u.1 u.2 u.0.2
        ∙ ap (closed (rule_at r.table k) (events_of r) i) e

    -- what is open under one of the twelve is so at an event
    open_event : InUse r k i → standing_at r k i ≡ Open → code_at r k ≤ 12 → 1 ≤ i
    open_event u o few = go i refl
      where
        go : (j : ℕ) → i ≡ j → 1 ≤ i
        go zero e =
            let none : is_overall_rule r.table k ≡ false = overall_rule r.table k u.1 ∙ not_overall (code_at r k) few in
            absurd (true≢false (sym (ap is_open o) ∙ ap is_open (ap (standing_at r k) e ∙ zero_other r k none)))
        go (suc j) e = omega arith

    closed_open : InUse r k i → standing_at r k i ≡ Open → code_at r k ≤ 12 → {p : Polarity} → polarity_of (rule_at r.table k) ≡ p → standing_at (closed_run r) k i ≡ decided p 0
    unfolding closed
    closed_open u o few e =
        closed_from u o ∙ closing_event (rule_at r.table k) (events_of r) i (open_event u o few) ∙ ap (λ (p : Polarity). decided p 0) e

    closed_other : Placed k i → is_open (standing_at r k i) ≡ false → standing_at (closed_run r) k i ≡ standing_at r k i
    closed_other p h = go (leb k r.table.count) (leb i r.count) refl refl
      where
        go : (a b : Bool) → leb k r.table.count ≡ a → leb i r.count ≡ b → standing_at (closed_run r) k i ≡ standing_at r k i
        go true true a b =
            closed_from (p, leb-true k r.table.count a, leb-true i r.count b) refl
            ∙ closed_decided (rule_at r.table k) (events_of r) i (standing_at r k i) h
        go true false a b = closed_rest (p, inr (leb-false i r.count b))
        go false b a c = closed_rest (p, inl (leb-false k r.table.count a))

  -- the arrays, and what else stays
  keeps : (next : Run) → next.table ≡ r.table → next.count ≡ r.count → next.events ≡ r.events → next.clock ≡ r.clock → length next.cells ≡ length r.cells → length next.overall ≡ length r.overall → ((k i : ℕ) → NotInUse r k i → standing_at next k i ≡ standing_at r k i) → ((k : ℕ) → Unread r k → unread next k ≡ unread r k) → length next.totals ≡ length r.totals → ((k : ℕ) → Unused r k → stored_totals next k ≡ stored_totals r k) → KeepsRest r next
  keeps next t n es c l m f g s u =
      record { table = t; count = n; events = es; clock = c; cells = l ∙ size.cells; overall = m ∙ size.overall; standings = f; others = g; totals = s ∙ size.totals; unused = u }

  judges : Judges r (judged_run r)
  unfolding judged_run carried
  judges =
      record {
        phase = refl;
        rest = keeps (judged_run r) refl refl refl refl (judged_length r) (judged_overall_lem r) judged_rest (λ k u. judged_unread r size k u.0 u.1 u.2) (counted_length _) (λ k u. counted_kept _ k (omega arith) (omega (arith, size.totals, u.1)) u.0);
        fulfilled = λ k i j u e. judged_from k i u e;
        violated = λ k i j u e. judged_from k i u e;
        «open» = λ k i u e. judged_from k i u e;
        idle = λ k i u e. judged_from k i u e;
      }

  -- what is open at position 0 is decided by the formula
  closed_zero : (k : ℕ) → InUse r k 0 → standing_at r k 0 ≡ Open → standing_at (closed_run r) k 0 ≡ verdict (rule_at r.table k) (events_of r) 0
  unfolding closed
  closed_zero k u o = go (is_overall_rule r.table k) refl
    where
      rule : Rule
      rule = rule_at r.table k

      go : (b : Bool) → is_overall_rule r.table k ≡ b → standing_at (closed_run r) k 0 ≡ verdict rule (events_of r) 0
      go true q =
          let on : activation_at rule (events_of r) 0 ≡ true = activation_zero rule (events_of r) ∙ sym (overall_rule r.table k u.1) ∙ q in
          closed_from k 0 u o ∙ closing_zero rule (events_of r) ∙ sym (verdict_is rule (events_of r) 0 on)
      go false q = absurd (true≢false (sym (ap is_open o) ∙ ap is_open (zero_other r k q)))

  closes : Closes r (closed_run r)
  unfolding closed_run decided
  closes =
      record {
        phase = refl;
        rest = keeps (closed_run r) refl refl refl refl (closed_length r) (closed_overall_lem r) closed_rest (λ k u. closed_unread r size k u.0 u.1 u.2) (counted_length _) (λ k u. counted_kept _ k (omega arith) (omega (arith, size.totals, u.1)) u.0);
        violated = λ k i u o a b. closed_open k i u o (omega arith) (positive (code_at r k) a b);
        fulfilled = λ k i u o a b. closed_open k i u o b (negative (code_at r k) a b);
        overall = closed_zero;
        others = closed_other;
      }

-- ---- a finished cycle

finishes : (t : Table) (es : List Event) → Finishes t es (finished_run t (length es) (event_slots es))
unfolding idle_run finished_run
finishes t es =
    record {
      phase = refl;
      table = refl;
      count = refl;
      events = refl;
      cells = whole_length t es false 0;
      overall = whole_overall_lem t es false 0;
      verdicts = λ k i u. unfold judged in whole_judged t es false 0 k i u.0 u.1 u.2;
      others = λ k i u. whole_rest t es false 0 k i u.0.0 u.0.1 u.0.2 u.1;
      unread_idle = λ k u. whole_unread t es false 0 k u.0 u.1 u.2;
      totals = finished_totals t es;
      unused = λ k u. finished_unused t es k u.0 u.1;
      clock = refl;
    }

pub words : Words
words =
    record {
      started_valid = started_valid;
      call_valid = call_valid;
      close_valid = close_valid;
      events = events_are;
      valid = λ r size. (valid→ r size, valid← r size);
      starts = starts;
      refuses = refuses;
      appends = λ r e size room. appends r size e room;
      keeps = keeps_time;
      judges = judges;
      closes = closes;
      finishes = finishes;
    }
