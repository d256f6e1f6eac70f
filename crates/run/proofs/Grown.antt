-- The claim over a list of takes and notices.
--
-- By induction over the list: what holds of the run and its course before a call holds after it. A
-- refused call keeps both. An accepted take puts the event at the end of both, an accepted notice
-- its time in both; a standing that is carried over is what the next course says, since decided
-- standings are exact; a new position was idle before. Closing turns each standing into its verdict.
use mathlib.Core.Path.{◌≡◌, refl, sym, ap, ap₂, subst, ◌∙◌}
use mathlib.Core.Bool.{Bool, true, false, not, cond, and-false}
use mathlib.Core.List.{List, [], ◌∷◌, ◌++◌, map, append_assoc}
use Prim.Native.Nat.{ℕ, zero, suc, ◌+◌, ◌-◌, ◌≤◌, ◌<◌}
use native.Mathlib.Omega.{arith}
use borrow.Author.Tests.{le-leb, lt-leb, ltb-true, leb-true, leb-false}
use lib.Dec.{leb}
use lib.ListN.{length, get_or, set, replicate, length-append, length-replicate, get_or-replicate}
use lib.Seq.{set-append_seam}
use Rattle.declare.specs.declared.Event.{Event}
use Rattle.declare.specs.declared.Rule.{Rule}
use Rattle.declare.specs.declared.Table.{Table}
use Rattle.declare.specs.declared.Standing.{Standing}
use Rattle.declare.specs.declared.Standing.TheVariants.{Idle}
use Rattle.declare.specs.Limits.{most_rules, most_events}
use Rattle.declare.specs.Events.{last_from, last_time, empty_slot}
use Rattle.declare.specs.Rules.{rule_at, valid_table}
use Rattle.declare.specs.Slots.{padded, event_slots}
use Rattle.declare.specs.Lists.{bit, count_below}
use Rattle.declare.specs.Overall.{is_overall}
use Rattle.declare.specs.Suits.{is_activation, activation_at}
use Rattle.declare.specs.Continuations.{Course, horizon}
use Rattle.declare.specs.Reachability.{standing}
use Rattle.declare.specs.Standings.{is_idle}
use Rattle.declare.specs.Answers.{accepted, ◌>>◌, is_accepted, after_call}
use Rattle.declare.specs.Steps.{carried, closed, Cycle, Call, takes, notices, admits, is_admitted, course_with, course_after, course}
use Rattle.declare.proofs.Booleans.{both₃}
use Rattle.declare.proofs.Zero.{activation_zero, activation_event}
use Rattle.declare.proofs.Answers.{passed, accepted_then, after_then}
use Rattle.declare.proofs.Steps.{empty_cycle, take_admitted, added_by, GoesOn, goes_on, carried_next, closed_decided, closed_is_verdict, cycle_of_taken, course_of_cycle}
use Rattle.declare.proofs.Lists.{replicated}
use Rattle.declare.proofs.Tables.{rules_within, rule_valid}
use Rattle.declare.proofs.Exactness.{verdict_active, standing_active}
use Rattle.standings.specs.Places.{places, idle_cell, place_of, in_use}
use Rattle.standings.specs.Totals.{totals_by, no_totals}
use Rattle.standings.proofs.Places.{in_use_lem, in_use_fewer, from_one}
use Rattle.standings.proofs.Changes.{idle_standing}
use Rattle.standings.proofs.Counts.{totals_same, totals_sum, totals_activations}
use Rattle.run.specs.declared.Run.{Run}
use Rattle.run.specs.Records.{events_of, course_of, horizon_of, with_events, with_clock, standing_at, totals_in, valid_events, valid_run, Sized}
use Rattle.run.specs.Start.{idle_run, new_run, start_of, started}
use Rattle.run.specs.Calls.{entered, judged_run, call_of}
use Rattle.run.specs.Close.{closed_run, close_of, running_run, finished_run}
use Rattle.run.specs.Grown.{after_calls, grown, RunOf, Fits, Answers, running, finished, call_after, EveryCalls}
use Rattle.run.proofs.Guards.{call_by}
use Rattle.run.proofs.Stored.{counted_length, counted_kept}
use Rattle.run.proofs.Answered.{standing_found, totals_found, position_within}
use Rattle.run.proofs.Places.{start_zero, start_unread, start_overall, judged_length, closed_length, judged_overall_lem, closed_overall_lem, judged_standing, judged_kept, judged_unread, closed_standing, closed_kept, closed_unread}
use Rattle.run.proofs.Whole.{slots_of, first_events, running_is, finished_is}
use Rattle.run.proofs.Validity.{start_valid, onward, onward_sized, onward_valid, closed_run_valid}

-- ---- start

run_started : (t : Table) → valid_table t ≡ true → RunOf t (course []) false (running t (course [])) (new_run t)
unfolding new_run idle_run padded horizon last_time last_from course course_after
run_started t v =
    record {
      valid = start_valid t v;
      phase = refl;
      table = refl;
      count = refl;
      events = refl;
      cells = length-replicate places idle_cell;
      overall = start_overall t;
      totals = counted_length _ ∙ length-replicate most_rules no_totals;
      clock = refl;
      standings = at;
      idle = λ j l u. get_or-replicate places j idle_cell idle_cell l;
      others = start_unread t;
      unused = λ k a b. counted_kept _ k (omega arith) (omega (arith, length-replicate most_rules no_totals, b)) a ∙ replicated most_rules (k - 1) no_totals;
    }
  where
    at : (k i : ℕ) → 1 ≤ k → k ≤ t.count → i ≤ 0 → standing_at (new_run t) k i ≡ standing (rule_at t k) [] 0 i
    at k zero a b c = start_zero t k a b (omega (arith, rules_within t v))
    at k (suc i) a b c = absurd (omega arith)

-- ---- the answer of a call

module _ (c : Course) (r : Run) (call : Call) where
  answer_is : valid_run r ≡ true → r.closed ≡ false → course_of r ≡ c → r.count ≡ length c.events → call_of r call ≡ call_after c r call
  unfolding call_after
  answer_is v o k n =
      call_by r call v o
      ∙ ap₂ (λ (m h : ℕ). admits m h call >> accepted (judged_run (entered r call))) n (ap horizon k)

  -- accepted just if the call is admitted
  accepted_admitted : is_accepted (call_after c r call) ≡ is_admitted c call
  unfolding call_after is_admitted
  accepted_admitted = accepted_then (admits (length c.events) (horizon c) call) (judged_run (entered r call))

  run_after : after_call r (call_after c r call) ≡ cond (is_admitted c call) (judged_run (entered r call)) r
  unfolding call_after is_admitted
  run_after = after_then r (admits (length c.events) (horizon c) call) (judged_run (entered r call))

-- ---- one call more

module _ (t : Table) (slots : length t.rules ≡ most_rules) (v : valid_table t ≡ true) (c : Course) (cycle : Cycle c.events) where
  sized : (over : Bool) (stands : ℕ → ℕ → Standing) (r : Run) → RunOf t c over stands r → Sized r
  sized over stands r g =
      record {
        rules = ap (λ (u : Table). length u.rules) g.table ∙ slots;
        events = ap length g.events ∙ slots_of c.events cycle.most;
        cells = g.cells;
        overall = g.overall;
        totals = g.totals;
      }

  course_is : (over : Bool) (stands : ℕ → ℕ → Standing) (r : Run) → RunOf t c over stands r → course_of r ≡ c
  unfolding events_of
  course_is over stands r g = rw (g.clock, g.count, g.events, first_events c.events) refl

  module _ (r : Run) (g : RunOf t c false (running t c) r) where
    size : Sized r
    size = sized false (running t c) r g

    answer : (call : Call) → call_of r call ≡ call_after c r call
    answer call = answer_is c r call g.valid g.phase (course_is false (running t c) r g) g.count

    -- with the events and the kept time of the next course
    module _ (next : Course) (added : List Event) (goes : GoesOn c next added) where
      abbrev unjudged : Run
      unjudged = onward r (length next.events) (event_slots next.events) next.clock

      next_size : Sized unjudged
      next_size =
          onward_sized r size (length next.events) (event_slots next.events) next.clock (slots_of next.events goes.cycle.most)

      next_events : events_of unjudged ≡ next.events
      unfolding events_of
      next_events = first_events next.events

      more : length c.events ≤ length next.events
      more = omega (arith, ap length goes.events, length-append c.events added)

      next_valid : valid_run (judged_run unjudged) ≡ true
      next_valid =
          onward_valid r size g.valid (length next.events) (event_slots next.events) next.clock g.phase (omega (arith, g.count, more)) events_valid (slots_of next.events goes.cycle.most)
        where
          events_valid : valid_events (length next.events) (event_slots next.events) ≡ true
          events_valid =
              unfold valid_events in
              rw (first_events next.events) (both₃ (le-leb (length next.events) most_events goes.cycle.most) goes.cycle.formed goes.cycle.order)

      -- carried over or judged anew, a standing is what the next course says
      carries : (k i : ℕ) → 1 ≤ k → k ≤ t.count → i ≤ most_events → carried (standing_at r k i) (running t next k i) ≡ running t next k i
      unfolding carried
      carries k i a b d = go (leb i (length c.events)) refl
        where
          go : (b : Bool) → leb i (length c.events) ≡ b → carried (standing_at r k i) (running t next k i) ≡ running t next k i
          go true q =
              let l : i ≤ length c.events = leb-true i (length c.events) q in
              rw (g.standings k i a b l) (carried_next (rule_at t k) c next added i (rule_valid t slots v k a b) cycle goes l)
          go false q =
              let l : length c.events < i = leb-false i (length c.events) q in
              let unused : in_use t.count (length c.events) (place_of k i) ≡ false =
              in_use_lem k i a (omega arith) d t.count (length c.events) ∙ rw (lt-leb i (length c.events) l) (and-false (leb k t.count)) in
              let placed : place_of k i < places = omega (arith, rules_within t v) in
              let was-idle : standing_at r k i ≡ Idle = from_one _ _ i (omega arith) ∙ idle_standing r.cells k i (g.idle (place_of k i) placed unused) in
              rw was-idle refl

      judged_next : (k i : ℕ) → standing (rule_at r.table k) (events_of unjudged) (horizon_of unjudged) i ≡ running t next k i
      judged_next k i =
          ap (λ (l : List Event). standing (rule_at r.table k) l (horizon (record { events = l; clock = next.clock })) i) next_events
          ∙ ap (λ (u : Table). standing (rule_at u k) next.events (horizon next) i) g.table

      standings_next : (k i : ℕ) → 1 ≤ k → k ≤ t.count → i ≤ length next.events → standing_at (judged_run unjudged) k i ≡ running t next k i
      standings_next k i a b d =
          let f : k ≤ r.table.count = rw g.table b in
          let m : i ≤ most_events = omega (arith, d, goes.cycle.most) in
          judged_standing unjudged next_size k a (omega (arith, rules_within t v)) i f d m
          ∙ ap (carried (standing_at r k i)) (judged_next k i)
          ∙ carries k i a b m

      idle_next : (j : ℕ) → j < places → in_use t.count (length next.events) j ≡ false → get_or (judged_run unjudged).cells j idle_cell ≡ idle_cell
      idle_next j l u =
          let w : j < length r.cells = let s = g.cells in omega arith in
          judged_kept unjudged j w (ap (λ (u : Table). in_use u.count (length next.events) j) g.table ∙ u)
          ∙ g.idle j l (in_use_fewer t.count (length c.events) (length next.events) j more u)

      run_judged : RunOf t next false (running t next) (judged_run unjudged)
      unfolding judged_run
      run_judged =
          record {
            valid = next_valid;
            phase = g.phase;
            table = g.table;
            count = refl;
            events = refl;
            cells = judged_length unjudged ∙ g.cells;
            overall = judged_overall_lem unjudged ∙ g.overall;
            totals = counted_length _ ∙ g.totals;
            clock = refl;
            standings = standings_next;
            idle = idle_next;
            others = λ k a b o. judged_unread unjudged next_size k a b (rw g.table o) ∙ g.others k a b o;
            unused = λ k a b. counted_kept _ k (omega arith) (omega (arith, g.totals, b)) (rw g.table a) ∙ g.unused k a b;
          }

    -- what an admitted call enters
    filled : (e : Event) → length c.events < most_events → set r.events r.count e ≡ event_slots (c.events ++ e ∷ [])
    unfolding padded
    filled e room =
        let n : most_events - length c.events ≡ suc (most_events - length (c.events ++ e ∷ [])) = simp length-append (omega arith) in
        rw (g.count, g.events, n)
        (set-append_seam c.events empty_slot (replicate (most_events - length (c.events ++ e ∷ [])) empty_slot) e ∙ sym (append_assoc c.events (e ∷ []) (replicate (most_events - length (c.events ++ e ∷ [])) empty_slot)))

    entered_is : (call : Call) → is_admitted c call ≡ true → entered r call ≡ onward r (length (course_with c call).events) (event_slots (course_with c call).events) (course_with c call).clock
    unfolding entered course_with is_admitted
    entered_is (takes e) h =
        let room : length c.events < most_events = ltb-true (length c.events) most_events (take_admitted (length c.events) (horizon c) e h).2 in
        ap₂ (with_events r) (ap (λ (n : ℕ). n + 1) g.count ∙ sym (length-append c.events (e ∷ []))) (filled e room)
        ∙ ap (onward r (length (c.events ++ e ∷ [])) (event_slots (c.events ++ e ∷ []))) g.clock
    entered_is (notices time) h = ap₂ (λ (n : ℕ) (l : List Event). onward r n l time) g.count g.events

    -- admitted or not
    abbrev after : Call → Course
    after call = cond (is_admitted c call) (course_with c call) c

    run_next : (call : Call) → RunOf t (after call) false (running t (after call)) (after_call r (call_of r call))
    run_next call = rw (answer call, run_after c r call) (go (is_admitted c call) refl)
      where
        go : (b : Bool) → is_admitted c call ≡ b → RunOf t (cond b (course_with c call) c) false (running t (cond b (course_with c call) c)) (cond b (judged_run (entered r call)) r)
        go true h = rw (entered_is call h) (run_judged (course_with c call) (added_by call) (goes_on c call cycle h))
        go false h = g

-- ---- all calls

module _ (t : Table) (slots : length t.rules ≡ most_rules) (v : valid_table t ≡ true) where
  run_after_calls : (c : Course) (calls : List Call) (r : Run) → Cycle c.events → RunOf t c false (running t c) r → RunOf t (course_after c calls) false (running t (course_after c calls)) (after_calls r calls)
  unfolding course_after after_calls
  run_after_calls c [] r cycle g = g
  run_after_calls c (call ∷ calls) r cycle g =
      run_after_calls (after t slots v c cycle r g call) calls (after_call r (call_of r call)) (go (is_admitted c call) refl) (run_next t slots v c cycle r g call)
    where
      go : (b : Bool) → is_admitted c call ≡ b → Cycle (cond b (course_with c call) c).events
      go true h = (goes_on c call cycle h).cycle
      go false h = cycle

  run_started_is : started t ≡ new_run t
  unfolding started start_of after_call
  run_started_is = rw (passed 11 (accepted (new_run t)) v)

  run_grown : (calls : List Call) → RunOf t (course calls) false (running t (course calls)) (grown t calls)
  run_grown calls =
      unfold grown course in
      rw run_started_is (run_after_calls (record { events = []; clock = 0 }) calls (new_run t) empty_cycle (unfold course course_after in run_started t v))

-- ---- closing

module _ (t : Table) (slots : length t.rules ≡ most_rules) (v : valid_table t ≡ true) (c : Course) (cycle : Cycle c.events) (r : Run) (g : RunOf t c false (running t c) r) where
  whole : Sized r
  whole = sized t slots v c cycle false (running t c) r g

  standings_closed : (k i : ℕ) → 1 ≤ k → k ≤ t.count → i ≤ length c.events → standing_at (closed_run r) k i ≡ finished t c.events k i
  standings_closed k i a b d =
      let n = g.count in
      let f = cycle.most in
      let l : k ≤ r.table.count = rw g.table b in
      closed_standing r whole k a (omega (arith, rules_within t v)) i l (omega arith) (omega arith)
      ∙ ap (λ (u : Table). closed (rule_at u k) (events_of r) i (standing_at r k i)) g.table
      ∙ ap (λ (l : Course). closed (rule_at t k) l.events i (standing_at r k i)) (course_is t slots v c cycle false (running t c) r g)
      ∙ ap (closed (rule_at t k) c.events i) (g.standings k i a b d)
      ∙ closed_is_verdict (rule_at t k) c.events (horizon c) i

  idle_closed : (j : ℕ) → j < places → in_use t.count (length c.events) j ≡ false → get_or (closed_run r).cells j idle_cell ≡ idle_cell
  idle_closed j l u =
      let w : j < length r.cells = let s = g.cells in omega arith in
      closed_kept r j w (rw (g.table, g.count) u) ∙ g.idle j l u

  run_closed : RunOf t c true (finished t c.events) (closed_run r)
  unfolding closed_run
  run_closed =
      record {
        valid = closed_run_valid r whole g.valid;
        phase = refl;
        table = g.table;
        count = g.count;
        events = g.events;
        cells = closed_length r ∙ g.cells;
        overall = closed_overall_lem r ∙ g.overall;
        totals = counted_length _ ∙ g.totals;
        clock = g.clock;
        standings = standings_closed;
        idle = idle_closed;
        others = λ k a b o. closed_unread r whole k a b (rw g.table o) ∙ g.others k a b o;
        unused = λ k a b. counted_kept _ k (omega arith) (omega (arith, g.totals, b)) (rw g.table a) ∙ g.unused k a b;
      }

-- ---- standing and totals

-- a rule about the cycle has one activation, position 0
one_activation : (rule : Rule) (es : List Event) → is_overall rule.code ≡ true → count_below (activation_at rule es) (suc (length es)) ≡ 1
unfolding count_below
one_activation rule es o = counted (length es)
  where
    none : (i : ℕ) → activation_at rule es (suc i) ≡ false
    none i = activation_event rule es (suc i) (omega arith) ∙ unfold is_activation in rw o refl

    counted : (n : ℕ) → count_below (activation_at rule es) (suc n) ≡ 1
    counted zero = rw (activation_zero rule es, o) refl
    counted (suc n) = ap₂ (λ (m : ℕ) (b : Bool). m + bit b) (counted n) (none n)

module _ (t : Table) (es : List Event) (clock : ℕ) (over : Bool) (stands : ℕ → ℕ → Standing) (r : Run) (g : RunOf t (record { events = es; clock = clock }) over stands r) where
  pub answers : ((k i : ℕ) → not (is_idle (stands k i)) ≡ activation_at (rule_at t k) es i) → Answers t es stands r
  answers active =
      record {
        standing = λ k i a b p. standing_found r k i g.valid a (rw g.table b) (rw (g.table, g.count) p) ∙ ap accepted (g.standings k i a b (position_within t (length es) k i p));
        totals = λ k a b. totals_found r k g.valid a (rw g.table b) ∙ ap accepted (same k a b);
        fit = λ k. fits k;
      }
    where
      same : (k : ℕ) → 1 ≤ k → k ≤ t.count → totals_in r k ≡ totals_by (stands k) (length es)
      same k a b =
          ap (totals_by (standing_at r k)) g.count
          ∙ totals_same (standing_at r k) (stands k) (length es) (λ i d. g.standings k i a b d)

      fits : (k : ℕ) → Fits (rule_at t k) es (totals_by (stands k) (length es))
      fits k =
          let counted = totals_activations (stands k) (activation_at (rule_at t k) es) (length es) (active k) in
          record { sum = totals_sum (stands k) (length es); activations = counted; one = λ o. counted ∙ one_activation (rule_at t k) es o }

-- ---- the claim

pub every_calls : EveryCalls
every_calls t calls slots v =
    let c : Course = course calls in
    let r : Run = grown t calls in
    let cycle : Cycle c.events = cycle_of_taken calls in
    let g : RunOf t c false (running t c) r = run_grown t slots v calls in
    let f : RunOf t c true (finished t c.events) (closed_run r) = run_closed t slots v c cycle r g in
    record {
      run = g;
      answer = answer t slots v c cycle r g;
      accepts = λ call. ap is_accepted (answer t slots v c cycle r g call) ∙ accepted_admitted c r call;
      answers = answers t c.events c.clock false (running t c) r g (λ k i. standing_active (rule_at t k) c.events i (horizon c));
      close = unfold close_of in passed 11 _ g.valid ∙ passed 9 _ (ap not g.phase);
      closed_run_lem = f;
      closed_answers = answers t c.events c.clock true (finished t c.events) (closed_run r) f (λ k i. verdict_active (rule_at t k) c.events i);
      judged_once = sym (running_is t v c cycle.most r g);
      closed_once = sym (finished_is t v c cycle.most (closed_run r) f);
      kept = λ k i d. sym (closed_is_verdict (rule_at t k) c.events (horizon c) i) ∙ closed_decided (rule_at t k) c.events i (running t c k i) d;
    }

-- ---- a whole cycle without notices

module _ (t : Table) (slots : length t.rules ≡ most_rules) (v : valid_table t ≡ true) (es : List Event) (cycle : Cycle es) where
  all_taken : course (map takes es) ≡ record { events = es; clock = 0 }
  all_taken = course_of_cycle es cycle

  pub running_is_grown : running_run t (length es) (event_slots es) 0 ≡ grown t (map takes es)
  running_is_grown =
      sym (subst (λ (c : Course). grown t (map takes es) ≡ running_run t (length c.events) (event_slots c.events) c.clock) all_taken
      (every_calls t (map takes es) slots v).judged_once)

  pub finished_is_grown : finished_run t (length es) (event_slots es) ≡ closed_run (grown t (map takes es))
  unfolding finished_run idle_run
  finished_is_grown =
      sym (subst (λ (c : Course). closed_run (grown t (map takes es)) ≡ with_clock (finished_run t (length c.events) (event_slots c.events)) c.clock) all_taken
      (every_calls t (map takes es) slots v).closed_once)

  pub finished_run_lem : RunOf t (record { events = es; clock = 0 }) true (finished t es) (finished_run t (length es) (event_slots es))
  finished_run_lem =
      rw finished_is_grown
      (subst (λ (c : Course). RunOf t c true (finished t c.events) (closed_run (grown t (map takes es)))) all_taken
      (every_calls t (map takes es) slots v).closed_run_lem)

  pub finished_answers : Answers t es (finished t es) (finished_run t (length es) (event_slots es))
  finished_answers =
      answers t es 0 true (finished t es) (finished_run t (length es) (event_slots es)) finished_run_lem (λ k i. verdict_active (rule_at t k) es i)
