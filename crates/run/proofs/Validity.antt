-- Start gives a valid record, and take, notice and close keep one valid.
--
-- The table stays. Take adds a well-formed event that is not earlier than the last. A judged
-- standing names no position past the events, a carried one none past those before, and past the
-- count every cell stays idle; closing names position 0 or what was named.
use mathlib.Core.Path.{◌≡◌, refl, sym, ap, subst, ◌∙◌}
use mathlib.Core.Bool.{Bool, true, false, not, cond, ◌||◌, true≢false, false≢true}
use mathlib.Core.List.{List, [], ◌∷◌}
use Prim.Native.Nat.{ℕ, zero, suc, ◌+◌, ◌/◌, ◌%◌, max, ◌≤◌, ◌<◌, zero-le}
use native.Mathlib.Numerals.{add-one}
use native.Mathlib.Omega.{arith}
use borrow.Author.Tests.{le-leb, lt-leb, leb-true, leb-false, ltb-true, not-true}
use lib.Dec.{leb, eqb}
use lib.ListN.{length, take, set, length-set, length-replicate}
use lib.Seq.{length-take-le}
use Rattle.declare.specs.Standings.{is_idle}
use Rattle.declare.specs.declared.Event.{Event}
use Rattle.declare.specs.declared.Rule.{Rule}
use Rattle.declare.specs.declared.Table.{Table}
use Rattle.declare.specs.declared.Polarity.{Polarity}
use Rattle.declare.specs.declared.Polarity.TheVariants.{Positive, Negative}
use Rattle.declare.specs.declared.Standing.{Standing}
use Rattle.declare.specs.declared.Standing.TheVariants.{Idle, Open, Fulfilled, Violated}
use Rattle.declare.specs.Lists.{all}
use Rattle.declare.specs.Limits.{most_rules, most_events}
use Rattle.declare.specs.Events.{well_formed, non_falling_from, non_falling, last_time}
use Rattle.declare.specs.Overall.{is_overall}
use Rattle.declare.specs.Rules.{rule_at, rules_of, valid_table}
use Rattle.declare.specs.Slots.{event_slots, table_of, empty_table}
use Rattle.declare.specs.Suits.{is_activation, activation_at}
use Rattle.declare.specs.Templates.{polarity_of}
use Rattle.declare.specs.Verdicts.{target, decided, formula_of, fulfilled_if, decision}
use Rattle.declare.specs.Continuations.{horizon}
use Rattle.declare.specs.Reachability.{undecided, standing}
use Rattle.declare.specs.Answers.{is_accepted, after_call}
use Rattle.declare.specs.Steps.{carried, closing, closed, Call, takes, notices, admits}
use Rattle.declare.proofs.Booleans.{both, both₃, both₄, and₂, and₃}
use Rattle.declare.proofs.Zero.{activation_zero, activation_event, closing_zero, closing_event}
use Rattle.declare.proofs.Targets.{target_within}
use Rattle.declare.proofs.Exactness.{decision_decided, standing_active, idle_elsewhere}
use Rattle.declare.proofs.Carried.{only_idle, decided_active}
use Rattle.declare.proofs.Tables.{rules_within}
use Rattle.declare.proofs.Lists.{all_parts, falls_more}
use Rattle.declare.proofs.Answers.{required, of_of, after_cases}
use Rattle.declare.proofs.Steps.{take_admitted, closed_decided}
use Rattle.standings.specs.Places.{standing_in, with_zero}
use Rattle.standings.specs.Totals.{no_totals}
use Rattle.standings.proofs.Same.{standing_at_lem}
use Rattle.run.specs.declared.Run.{Run}
use Rattle.run.specs.Records.{events_of, horizon_of, standing_at, with_events, with_clock, valid_events, valid_standing, valid_at, events_judged, valid_zero, valid_run, Sized}
use Rattle.run.specs.Start.{idle_run, new_run, start_of, started}
use Rattle.run.specs.Calls.{entered, judged_run, call_of}
use Rattle.run.specs.Close.{IdlePast, closed_run, close_of}
use Rattle.run.proofs.Bounds.{Valid, events_within, valid_parts}
use Rattle.run.proofs.Checks.{judged_most}
use Rattle.run.proofs.Horizons.{events_entered}
use Rattle.run.proofs.Guards.{call_cases, close_cases}
use Rattle.run.proofs.Stored.{counted_valid}
use Rattle.run.proofs.Places.{start_idle, start_zero, judged_standing, judged_past, closed_standing, closed_past, valid_here, idle_anywhere, standings_each, each_standings}

-- ---- standings

decided_valid : (over : Bool) (n : ℕ) (p : Polarity) (j : ℕ) → j ≤ n → valid_standing over n (decided p j) ≡ true
unfolding decided
decided_valid over n Positive zero l = le-leb 0 n l
decided_valid over n Positive (suc j) l = le-leb (suc j) n l
decided_valid over n Negative zero l = le-leb 0 n l
decided_valid over n Negative (suc j) l = le-leb (suc j) n l

-- a decision names none of the events to come
decision_valid : (over : Bool) (r : Rule) (es : List Event) (i : ℕ) → valid_standing over (length es) (decision r es i) ≡ true
unfolding decision
decision_valid over r es i = go (eqb i 0)
  where
    by_formula : (t : Bool) (j : ℕ) → j ≤ length es → valid_standing over (length es) (fulfilled_if t j) ≡ true
    by_formula true j l = le-leb j (length es) l
    by_formula false j l = le-leb j (length es) l

    go : (z : Bool) → valid_standing over (length es) (cond z (fulfilled_if (formula_of r es) (target r es i)) (decided (polarity_of r) (target r es i))) ≡ true
    go true = by_formula (formula_of r es) (target r es i) (target_within r es i)
    go false = decided_valid over (length es) (polarity_of r) (target r es i) (target_within r es i)

standing_valid : (over : Bool) (r : Rule) (es : List Event) (h i : ℕ) → over ≡ false → valid_standing over (length es) (standing r es h i) ≡ true
unfolding standing
standing_valid over r es h i e = go (activation_at r es i) (undecided r es h i)
  where
    go : (a o : Bool) → valid_standing over (length es) (cond a (cond o Open (decision r es i)) Idle) ≡ true
    go false o = refl
    go true true = ap not e
    go true false = decision_valid over r es i

carried_valid : (over : Bool) (m n : ℕ) (old new : Standing) → m ≤ n → valid_standing over m old ≡ true → valid_standing over n new ≡ true → valid_standing over n (carried old new) ≡ true
unfolding carried
carried_valid over m n Idle new l a b = b
carried_valid over m n Open new l a b = b
carried_valid over m n (Fulfilled j) new l a b = let h = leb-true j m a in le-leb j n (omega arith)
carried_valid over m n (Violated j) new l a b = let h = leb-true j m a in le-leb j n (omega arith)

closing_valid : (r : Rule) (es : List Event) (i : ℕ) → valid_standing true (length es) (closing r es i) ≡ true
closing_valid r es zero = rw (closing_zero r es) (decision_valid true r es 0)
closing_valid r es (suc i) = rw (closing_event r es (suc i) (omega arith)) (decided_valid true (length es) (polarity_of r) 0 zero-le)

closed_valid : (over : Bool) (r : Rule) (es : List Event) (i : ℕ) (s : Standing) → valid_standing over (length es) s ≡ true → valid_standing true (length es) (closed r es i s) ≡ true
unfolding closed
closed_valid over r es i Idle v = refl
closed_valid over r es i Open v = closing_valid r es i
closed_valid over r es i (Fulfilled j) v = v
closed_valid over r es i (Violated j) v = v

-- ---- at a position from 1 on

pub idle_valid : (over : Bool) (n : ℕ) (s : Standing) → is_idle s ≡ true → valid_standing over n s ≡ true
idle_valid over n Idle h = refl
idle_valid over n Open h = absurd (false≢true h)
idle_valid over n (Fulfilled j) h = absurd (false≢true h)
idle_valid over n (Violated j) h = absurd (false≢true h)

-- what is valid at its position is valid, and past the count idle
pub at_valid : (over : Bool) (n i : ℕ) (s : Standing) → valid_at over n i s ≡ true → valid_standing over n s ≡ true
unfolding valid_at
at_valid over n i s = go (leb i n)
  where
    go : (b : Bool) → cond b (valid_standing over n s) (is_idle s) ≡ true → valid_standing over n s ≡ true
    go true h = h
    go false h = idle_valid over n s h

pub at_idle : (over : Bool) (n i : ℕ) (s : Standing) → n < i → valid_at over n i s ≡ true → is_idle s ≡ true
unfolding valid_at
at_idle over n i s l h = rw (lt-leb i n l) at h

pub taken_valid : (over : Bool) (n i : ℕ) (s : Standing) → i ≤ n → valid_standing over n s ≡ true → valid_at over n i s ≡ true
unfolding valid_at
taken_valid over n i s l h = rw (le-leb i n l) h

pub past_valid : (over : Bool) (n i : ℕ) (s : Standing) → n < i → is_idle s ≡ true → valid_at over n i s ≡ true
unfolding valid_at
past_valid over n i s l h = rw (lt-leb i n l) h

-- ---- at position 0

-- what is not idle may stand at 0 if it is valid
pub zero_valid : (over : Bool) (n : ℕ) (s : Standing) → is_idle s ≡ false → valid_standing over n s ≡ true → valid_zero over n s ≡ true
zero_valid over n s a b = both (ap not a) b

pub not_idle : (over : Bool) (n : ℕ) (s : Standing) → valid_zero over n s ≡ true → (is_idle s ≡ false) × (valid_standing over n s ≡ true)
not_idle over n s h = let p : (not (is_idle s) ≡ true) × (valid_standing over n s ≡ true) = and₂ h in (not-true (is_idle s) p.0, p.1)

-- ---- at any position

module _ (r : Rule) where
  -- a rule about the cycle is not idle at 0, and is idle at events
  pub here_judged : (over : Bool) (n : ℕ) (s : Standing) → is_overall r.code ≡ true → valid_here over r n 0 s ≡ true → valid_zero over n s ≡ true
  here_judged over n s o h = rw o at h

  pub here_idle : (over : Bool) (n i : ℕ) (s : Standing) → is_overall r.code ≡ true → valid_here over r n (suc i) s ≡ true → is_idle s ≡ true
  unfolding events_judged
  here_idle over n i s o h = at_idle over 0 (suc i) s (omega arith) (rw o at h)

  -- any other as at its position
  pub here_event : (over : Bool) (n i : ℕ) (s : Standing) → is_overall r.code ≡ false → valid_here over r n (suc i) s ≡ valid_at over n (suc i) s
  unfolding events_judged
  here_event over n i s o = rw o refl

  pub idle_here : (over : Bool) (n i : ℕ) (s : Standing) → is_idle s ≡ true → valid_here over r n (suc i) s ≡ true
  unfolding valid_at
  idle_here over n i s h = idle_anywhere over (events_judged r n) (events_judged r n) (suc i) s h

  pub zero_here : (over : Bool) (n : ℕ) (s : Standing) → (is_overall r.code ≡ true → valid_zero over n s ≡ true) → valid_here over r n 0 s ≡ true
  zero_here over n s f = go (is_overall r.code) refl
    where
      go : (o : Bool) → is_overall r.code ≡ o → (not o || valid_zero over n s) ≡ true
      go true q = f q
      go false q = refl

  -- ---- closed

  module _ (es : List Event) where
    closed_active : (s : Standing) → is_idle s ≡ false → is_idle (closed r es 0 s) ≡ false
    unfolding closed
    closed_active Idle h = absurd (true≢false h)
    closed_active Open h = ap is_idle (closing_zero r es) ∙ decided_active (decision r es 0) (decision_decided r es 0)
    closed_active (Fulfilled j) h = refl
    closed_active (Violated j) h = refl

    closed_here : (over : Bool) (i : ℕ) (s : Standing) → i ≤ length es → valid_here over r (length es) i s ≡ true → valid_here true r (length es) i (closed r es i s) ≡ true
    closed_here over zero s l h =
        zero_here true (length es) (closed r es 0 s)
        (λ o. let p = not_idle over (length es) s (here_judged over (length es) s o h) in
        zero_valid true (length es) (closed r es 0 s) (closed_active s p.0) (closed_valid over r es 0 s p.1))
    closed_here over (suc i) s l h = go (is_overall r.code) refl
      where
        go : (o : Bool) → is_overall r.code ≡ o → valid_here true r (length es) (suc i) (closed r es (suc i) s) ≡ true
        go true q =
            let e : s ≡ Idle = only_idle s (here_idle over (length es) i s q h) in
            idle_here true (length es) i (closed r es (suc i) s) (ap (λ (u : Standing). is_idle (closed r es (suc i) u)) e ∙ ap is_idle (closed_decided r es (suc i) Idle refl))
        go false q =
            here_event true (length es) i (closed r es (suc i) s) q
            ∙ taken_valid true (length es) (suc i) (closed r es (suc i) s) l (closed_valid over r es (suc i) s (at_valid over (length es) (suc i) s (sym (here_event over (length es) i s q) ∙ h)))

    -- ---- judged, of m events before

    carried_active : (old new : Standing) → is_idle new ≡ false → is_idle (carried old new) ≡ false
    unfolding carried
    carried_active Idle new h = h
    carried_active Open new h = h
    carried_active (Fulfilled j) new h = refl
    carried_active (Violated j) new h = refl

    judged_here : (over : Bool) (m h i : ℕ) (s : Standing) → over ≡ false → m ≤ length es → i ≤ length es → valid_here over r m i s ≡ true → valid_here over r (length es) i (carried s (standing r es h i)) ≡ true
    judged_here over m h zero s runs l d v =
        zero_here over (length es) (carried s (standing r es h 0))
        (λ o. let p = not_idle over m s (here_judged over m s o v) in
        let on : not (is_idle (standing r es h 0)) ≡ true = standing_active r es 0 h ∙ activation_zero r es ∙ o in
        zero_valid over (length es) (carried s (standing r es h 0)) (carried_active s (standing r es h 0) (not-true _ on)) (carried_valid over m (length es) s (standing r es h 0) l p.1 (standing_valid over r es h 0 runs)))
    judged_here over m h (suc i) s runs l d v = go (is_overall r.code) refl
      where
        go : (o : Bool) → is_overall r.code ≡ o → valid_here over r (length es) (suc i) (carried s (standing r es h (suc i))) ≡ true
        go true q =
            let e : s ≡ Idle = only_idle s (here_idle over m i s q v) in
            let none : activation_at r es (suc i) ≡ false = activation_event r es (suc i) (omega arith) ∙ unfold is_activation in rw q refl in
            let stays : standing r es h (suc i) ≡ Idle = (idle_elsewhere r es h (suc i)).1 none in
            idle_here over (length es) i (carried s (standing r es h (suc i))) (rw (e, stays) (unfold carried in refl))
        go false q =
            here_event over (length es) i (carried s (standing r es h (suc i))) q
            ∙ taken_valid over (length es) (suc i) (carried s (standing r es h (suc i))) d (carried_valid over m (length es) s (standing r es h (suc i)) l (at_valid over m (suc i) s (sym (here_event over m i s q) ∙ v)) (standing_valid over r es h (suc i) runs))

  -- past the events, with more of them
  past_here : (over next : Bool) (m n i : ℕ) (s : Standing) → m < i → n < i → valid_here over r m i s ≡ true → valid_here next r n i s ≡ true
  past_here over next m n zero s a b v = absurd (omega arith)
  past_here over next m n (suc i) s a b v = go (is_overall r.code) refl
    where
      go : (o : Bool) → is_overall r.code ≡ o → valid_here next r n (suc i) s ≡ true
      go true q = idle_here next n i s (here_idle over m i s q v)
      go false q = idle_here next n i s (at_idle over m (suc i) s a (sym (here_event over m i s q) ∙ v))

-- past the events of a valid record all is idle
pub past_idle : (r : Run) → valid_run r ≡ true → IdlePast r.table r.count r.cells
past_idle r v j low past =
    let p = valid_parts r v in
    let k : ℕ = j / most_events + 1 in
    let n : ℕ = events_judged (rule_at r.table k) r.count in
    let s : Standing = standing_in r.cells k (suc (j % most_events)) in
    let h : valid_at r.closed n (suc (j % most_events)) s ≡ true = unfold with_zero in standings_each r.closed r p.standings p.overall k (suc (j % most_events)) (omega arith) (omega arith) (omega arith) in
    let l : n < suc (j % most_events) = omega (arith, past, judged_most (rule_at r.table k) r.count) in
    sym (standing_at_lem r.cells j)
    ∙ ap (standing_in r.cells k) (add-one (j % most_events))
    ∙ only_idle s (at_idle r.closed n (suc (j % most_events)) s l h)

-- ---- start

no_events : (slots : List Event) → valid_events 0 slots ≡ true
unfolding valid_events all non_falling non_falling_from
no_events slots = refl

pub start_valid : (t : Table) → valid_table t ≡ true → valid_run (new_run t) ≡ true
unfolding new_run idle_run valid_run
start_valid t v =
    let p = each_standings false (new_run t) here in
    both (both₄ v (no_events (event_slots [])) p.0 p.1)
    (counted_valid _ (length-replicate most_rules no_totals) (rules_within t v) zero-le)
  where
    here : (k i : ℕ) → 1 ≤ k → k ≤ t.count → i ≤ 256 → valid_here false (rule_at t k) 0 i (standing_at (new_run t) k i) ≡ true
    here k zero a b d =
        rw (start_zero t k a b (omega (arith, rules_within t v)))
        (unfold carried in judged_here (rule_at t k) [] false 0 0 0 Open refl zero-le zero-le (zero_here (rule_at t k) false 0 Open (λ o. refl)))
    here k (suc i) a b d = idle_here (rule_at t k) false 0 i (standing_at (new_run t) k (suc i)) (ap is_idle (start_idle t k (suc i) (omega arith)))

-- what holds of the run for a valid table, and for the empty one, holds beside start's answer
started_cases : (P : Run → Type 0) (t : Table) → P (new_run empty_table) → (valid_table t ≡ true → P (new_run t)) → P (started t)
unfolding started start_of
started_cases P t none new =
    after_cases P (new_run empty_table) (start_of t) none
    (λ s h. let v = required (valid_table t) 11 _ s h in subst P (of_of v.1) (new v.0))

-- also beside a refusal, where it is the run for the empty table
pub started_valid : (t : Table) → valid_run (started t) ≡ true
started_valid t = started_cases (λ s. valid_run s ≡ true) t (start_valid empty_table empty) (start_valid t)
  where
    empty : valid_table empty_table ≡ true
    empty = unfold valid_table rules_of empty_table table_of all in refl

-- ---- close, take and notice

-- with other events and another kept time
abbrev pub onward : Run → ℕ → List Event → ℕ → Run
onward r n events clock = with_clock (with_events r n events) clock

module _ (r : Run) (size : Sized r) where
  pub onward_sized : (n : ℕ) (events : List Event) (clock : ℕ) → length events ≡ most_events → Sized (onward r n events clock)
  onward_sized n events clock slots =
      record { rules = size.rules; events = slots; cells = size.cells; overall = size.overall; totals = size.totals }

module _ (r : Run) (size : Sized r) (valid : valid_run r ≡ true) where
  abbrev v : Valid r
  v = valid_parts r valid

  -- at position i of rule k
  module _ (k i : ℕ) (k-low : 1 ≤ k) (k_high : k ≤ r.table.count) (i_high : i ≤ most_events) where
    rule : Rule
    rule = rule_at r.table k

    s : Standing
    s = standing_at r k i

    old : valid_here r.closed rule r.count i s ≡ true
    unfolding rule s
    old = standings_each r.closed r v.standings v.overall k i k-low k_high i_high

    row : k ≤ most_rules
    row = omega (arith, v.rules_fit)

    long : length (events_of r) ≡ r.count
    unfolding events_of
    long = length-take-le r.count r.events (omega (arith, size.events, v.events_fit))

    closed_at_lem : valid_here true rule r.count i (standing_at (closed_run r) k i) ≡ true
    unfolding rule s
    closed_at_lem = go (leb i r.count) refl
      where
        go : (t : Bool) → leb i r.count ≡ t → valid_here true rule r.count i (standing_at (closed_run r) k i) ≡ true
        go true q =
            let l : i ≤ r.count = leb-true i r.count q in
            rw (closed_standing r size k k-low row i k_high l i_high)
            (ap (λ (n : ℕ). valid_here true rule n i (closed rule (events_of r) i s)) (sym long)
            ∙ closed_here rule (events_of r) r.closed i s (omega (arith, long)) (ap (λ (n : ℕ). valid_here r.closed rule n i s) long ∙ old))
        go false q =
            let l : r.count < i = leb-false i r.count q in
            rw (closed_past r size k k-low row i l i_high) (past_here rule r.closed true r.count r.count i s l l old)

    -- judged on no fewer events, after any notice
    judged_at_lem : (n : ℕ) (events : List Event) (clock : ℕ) → r.closed ≡ false → r.count ≤ n → n ≤ most_events → length events ≡ most_events → valid_here r.closed rule n i (standing_at (judged_run (onward r n events clock)) k i) ≡ true
    unfolding rule s
    judged_at_lem n events clock runs more few slots = go (leb i n) refl
      where
        next : Run
        next = onward r n events clock

        next_size : Sized next
        next_size = onward_sized r size n events clock slots

        long_next : length (events_of next) ≡ n
        long_next = unfold events_of in length-take-le n events (omega arith)

        go : (t : Bool) → leb i n ≡ t → valid_here r.closed rule n i (standing_at (judged_run next) k i) ≡ true
        go true q =
            let l : i ≤ n = leb-true i n q in
            rw (judged_standing next next_size k k-low row i k_high l i_high)
            (ap (λ (m : ℕ). valid_here r.closed rule m i (carried s (standing rule (events_of next) (horizon_of next) i))) (sym long_next)
            ∙ judged_here rule (events_of next) r.closed r.count (horizon_of next) i s runs (omega (arith, long_next)) (omega (arith, long_next)) old)
        go false q =
            let l : n < i = leb-false i n q in
            rw (judged_past next next_size k k-low row i l i_high) (past_here rule r.closed r.closed r.count n i s (omega arith) l old)

  pub closed_run_valid : valid_run (closed_run r) ≡ true
  closed_run_valid =
      let p = each_standings true (closed_run r) (λ k i a b d. unfold closed_run rule in closed_at_lem k i a b d) in
      unfold closed_run valid_run in
      both (both₄ v.table v.events p.0 p.1) (counted_valid _ size.totals v.rules_fit v.events_fit)

  pub close_valid : valid_run (after_call r (close_of r)) ≡ true
  close_valid = close_cases (λ s. valid_run s ≡ true) r valid closed_run_valid

  pub onward_valid : (n : ℕ) (events : List Event) (clock : ℕ) → r.closed ≡ false → r.count ≤ n → valid_events n events ≡ true → length events ≡ most_events → valid_run (judged_run (onward r n events clock)) ≡ true
  unfolding judged_run valid_run
  onward_valid n events clock runs more valid-events slots =
      let few : n ≤ most_events = events_within n events valid-events in
      let q = each_standings r.closed (judged_run (onward r n events clock)) (λ k i a b d. unfold rule in judged_at_lem k i a b d n events clock runs more few slots) in
      both (both₄ v.table valid-events q.0 q.1) (counted_valid _ size.totals v.rules_fit few)

  events_valid : (e : Event) → well_formed e ≡ true → leb (horizon_of r) e.time ≡ true → r.count < most_events → valid_events (r.count + 1) (set r.events r.count e) ≡ true
  unfolding valid_events events_of entered horizon
  events_valid e well follows room =
      let es : List Event = take r.count r.events in
      let v : (leb r.count most_events ≡ true) × (all well_formed es ≡ true) × (non_falling es ≡ true) = and₃ v.events in
      let n = size.events in
      let past : leb (last_time es) e.time ≡ true = le-leb (last_time es) e.time (omega (arith, leb-true (max (last_time es) r.clock) e.time follows)) in
      rw (events_entered r e (omega arith))
      (both₃ (le-leb (r.count + 1) most_events (omega arith)) (all_parts well_formed es (e ∷ []) ∙ both v.1 (unfold all in both well refl))
      (falls_more es e ∙ both v.2 past))

  pub accepted_valid : (call : Call) → r.closed ≡ false → is_accepted (admits r.count (horizon_of r) call) ≡ true → valid_run (judged_run (entered r call)) ≡ true
  unfolding entered
  accepted_valid (takes e) runs a =
      let p = take_admitted r.count (horizon_of r) e a in
      let room : r.count < most_events = ltb-true r.count most_events p.2 in
      onward_valid (r.count + 1) (set r.events r.count e) r.clock runs (omega arith) (events_valid e p.0 p.1 room) (length-set r.events r.count e ∙ size.events)
  accepted_valid (notices t) runs a = onward_valid r.count r.events t runs (omega arith) v.events size.events

  pub call_valid : (call : Call) → valid_run (after_call r (call_of r call)) ≡ true
  call_valid call = call_cases (λ s. valid_run s ≡ true) r call valid (accepted_valid call)
