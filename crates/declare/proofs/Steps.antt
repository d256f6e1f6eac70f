-- What a take, a notice or closing does to the standing of a position.
--
-- Closing: an open activation has no eligible event, so its verdict is that of target 0. Taking:
-- what can come after more events could come before them, since the event that shows it continues
-- both; so a decided standing stays decided, with its target. A notice adds no event and moves the
-- horizon.
use mathlib.Core.Path.{◌≡◌, refl, sym, ◌∙◌, ap}
use mathlib.Core.Bool.{Bool, true, false, cond, ◌&&◌, true≢false, false≢true}
use mathlib.Core.List.{List, [], ◌∷◌, ◌++◌, map, append-nil, append_assoc}
use Prim.Native.Nat.{ℕ, zero, suc, max, ◌≤◌, ◌<◌}
use native.Mathlib.Omega.{arith}
use borrow.Author.Tests.{eqb-true, eqb-false, le-leb, leb-true, lt-ltb, ltb-true}
use lib.Dec.{eqb, leb, ltb}
use lib.ListN.{length, length-append}
use Rattle.declare.specs.Types.{Event, Rule, Standing, Idle, Open, Fulfilled, Violated}
use Rattle.declare.specs.Lists.{all}
use Rattle.declare.specs.Events.{latest, well_formed, non_falling_from, non_falling, last_from, last_time}
use Rattle.declare.specs.Rules.{valid_rule}
use Rattle.declare.specs.Suits.{activation_at}
use Rattle.declare.specs.Templates.{polarity_of}
use Rattle.declare.specs.Verdicts.{eligible, target, decided, decision, verdict}
use Rattle.declare.specs.Continuations.{Course, horizon, continuation}
use Rattle.declare.specs.Reachability.{can_come, undecided, standing}
use Rattle.declare.specs.Standings.{is_open}
use Rattle.declare.specs.Answers.{◌>>◌, require, is_accepted}
use Rattle.declare.specs.Steps.{carried, closing, closed, Cycle, Call, takes, notices, admits, is_admitted, course_with, course_after, course, taken}
use Rattle.declare.specs.Limits.{most_events}
use Rattle.declare.proofs.Booleans.{and_left, and_right, and₂, both, fails, all_append}
use Rattle.declare.proofs.Lists.{all_parts, last_more}
use Rattle.declare.proofs.Extension.{activation_same, non_falling_parts, later_start}
use Rattle.declare.proofs.Arrival.{continuation_parts, comes, coming, coming_continues, coming_eligible}
use Rattle.declare.proofs.Zero.{closing_zero, closing_event, undecided_event, decision_event}
use Rattle.declare.proofs.Settled.{zero_decided}
use Rattle.declare.proofs.Exactness.{decision_shut, target_kept, decision_kept}

-- ---- closing

pub closed_decided : (r : Rule) (es : List Event) (i : ℕ) (s : Standing) → is_open s ≡ false → closed r es i s ≡ s
unfolding closed
closed_decided r es i Idle h = refl
closed_decided r es i Open h = absurd (true≢false h)
closed_decided r es i (Fulfilled j) h = refl
closed_decided r es i (Violated j) h = refl

-- an undecided activation at an event has no eligible one
closing_decides : (r : Rule) (es : List Event) (h i : ℕ) → undecided r es h i ≡ true → closing r es i ≡ decision r es i
closing_decides r es h zero o = closing_zero r es
closing_decides r es h (suc i) o =
    let none : target r es (suc i) ≡ 0 = eqb-true (target r es (suc i)) 0 (and_left _ (can_come r es h (suc i)) (sym (undecided_event r es (suc i) (omega arith) h) ∙ o)) in
    closing_event r es (suc i) (omega arith) ∙ ap (decided (polarity_of r)) (sym none) ∙ sym (decision_event r es (suc i) (omega arith))

-- closing gives the verdict of the finished cycle, whatever the rule, the events and the horizon
pub closed_is_verdict : (r : Rule) (es : List Event) (h i : ℕ) → closed r es i (standing r es h i) ≡ verdict r es i
unfolding standing verdict
closed_is_verdict r es h i = go (activation_at r es i) (undecided r es h i) refl
  where
    go : (a o : Bool) → undecided r es h i ≡ o → closed r es i (cond a (cond o Open (decision r es i)) Idle) ≡ cond a (decision r es i) Idle
    go false o q = closed_decided r es i Idle refl
    go true true q = unfold closed in closing_decides r es h i q
    go true false q = closed_decided r es i (decision r es i) (decision_shut r es i)

-- ---- more events

last_later : (s t : ℕ) (es : List Event) → s ≤ t → last_from s es ≤ last_from t es
unfolding last_from
last_later s t [] l = l
last_later s t (e ∷ es) l = omega arith

pub longer_cycle : (es added : List Event) (h : ℕ) → non_falling es ≡ true → last_time es ≤ h → continuation h added ≡ true → non_falling (es ++ added) ≡ true
unfolding non_falling last_time
longer_cycle es added h falls past more =
    non_falling_parts 0 es added ∙ both falls (later_start (last_from 0 es) h added past (continuation_parts h added more).0)

-- a continuation of a continuation
longer_continuation : (h later : ℕ) (added further : List Event) → last_from h added ≤ later → continuation h added ≡ true → continuation later further ≡ true → continuation h (added ++ further) ≡ true
unfolding continuation
longer_continuation h later added further l c d =
    let a = continuation_parts h added c in
    let b = continuation_parts later further d in
    both (non_falling_parts h added further ∙ both a.0 (later_start (last_from h added) later further l b.0)) (all_append well_formed added further a.1 b.1)

module _ (r : Rule) (es added : List Event) (h later i : ℕ) (valid : valid_rule r ≡ true) (falls : non_falling es ≡ true) (past : last_time es ≤ h) (on : last_from h added ≤ later) (high : i ≤ length es) (more : continuation h added ≡ true) where
  could_come : 1 ≤ i → can_come r (es ++ added) later i ≡ true → can_come r es h i ≡ true
  could_come low c =
      let next : List Event = coming r (es ++ added) later i ∷ [] in
      let m : i ≤ length (es ++ added) = omega (arith, length-append es added) in
      let k : continuation h (added ++ next) ≡ true =
      longer_continuation h later added next on more (coming_continues r (es ++ added) later i valid c) in
      let e : eligible r (es ++ (added ++ next)) i (suc (length (es ++ added))) ≡ true =
      rw append_assoc at (coming_eligible r (es ++ added) later i valid c low m) in
      comes r es (added ++ next) h i (suc (length (es ++ added))) falls past low high (omega (arith, length-append es added)) (simp length-append (omega arith)) k e

  still_decided_event : 1 ≤ i → undecided r es h i ≡ false → undecided r (es ++ added) later i ≡ false
  still_decided_event low q =
      undecided_event r (es ++ added) i low later
      ∙ rw (target_kept r valid es h falls past added more i low high q) (fails (eqb (target r es i) 0 && can_come r (es ++ added) later i) each (sym (undecided_event r es i low h) ∙ q))
    where
      each : (eqb (target r es i) 0 && can_come r (es ++ added) later i) ≡ true → (eqb (target r es i) 0 && can_come r es h i) ≡ true
      each k =
          let p : (eqb (target r es i) 0 ≡ true) × (can_come r (es ++ added) later i ≡ true) = and₂ k in
          both p.0 (could_come low p.1)

  still_decided : undecided r es h i ≡ false → undecided r (es ++ added) later i ≡ false
  still_decided q = go (eqb i 0) refl
    where
      go : (z : Bool) → eqb i 0 ≡ z → undecided r (es ++ added) later i ≡ false
      go true e =
          let n : i ≡ 0 = eqb-true i 0 e in
          rw n (zero_decided r valid es h falls past added more later (λ l. longer_continuation h later added l on more) (rw n at q))
      go false e = still_decided_event (omega (arith, eqb-false i 0 e)) q

  -- what is not open stays as it is
  pub standing_kept : is_open (standing r es h i) ≡ false → standing r (es ++ added) later i ≡ standing r es h i
  unfolding standing
  standing_kept o = go (activation_at r es i) refl (undecided r es h i) refl o
    where
      go : (a : Bool) → activation_at r es i ≡ a → (t : Bool) → undecided r es h i ≡ t → is_open (cond a (cond t Open (decision r es i)) Idle) ≡ false → standing r (es ++ added) later i ≡ cond a (cond t Open (decision r es i)) Idle
      go false e t q o = rw (activation_same r es added i high, e)
      go true e true q o = absurd (true≢false o)
      go true e false q o =
          rw (activation_same r es added i high, e, still_decided q, decision_kept r valid es h falls past added more i high q)

  -- carried over or judged anew, it is what the events say
  pub carried_standing : carried (standing r es h i) (standing r (es ++ added) later i) ≡ standing r (es ++ added) later i
  unfolding carried
  carried_standing = go (standing r es h i) refl
    where
      go : (s : Standing) → standing r es h i ≡ s → carried s (standing r (es ++ added) later i) ≡ standing r (es ++ added) later i
      go Idle e = refl
      go Open e = refl
      go (Fulfilled j) e = sym (standing_kept (ap is_open e) ∙ e)
      go (Violated j) e = sym (standing_kept (ap is_open e) ∙ e)

-- ---- admitted calls

pub empty_cycle : Cycle []
unfolding all non_falling non_falling_from
empty_cycle = record { formed = refl; order = refl; most = omega arith }

module _ (n h : ℕ) where
  -- nothing is a cause of 3, 7 or 8
  pub take_admitted : (e : Event) → is_accepted (admits n h (takes e)) ≡ true → (well_formed e ≡ true) × (leb h e.time ≡ true) × (ltb n most_events ≡ true)
  unfolding is_accepted admits ◌>>◌ require
  take_admitted e = go (well_formed e) (leb h e.time) (ltb n most_events)
    where
      go : (w t n : Bool) → is_accepted (require w 3 >> (require t 7 >> require n 8)) ≡ true → (w ≡ true) × (t ≡ true) × (n ≡ true)
      go true true true h = (refl, refl, refl)
      go true true false h = absurd (false≢true h)
      go true false n h = absurd (false≢true h)
      go false t n h = absurd (false≢true h)

  -- nor of 3 or 7
  pub notice_admitted : (t : ℕ) → is_accepted (admits n h (notices t)) ≡ true → (leb t latest ≡ true) × (leb h t ≡ true)
  unfolding is_accepted admits ◌>>◌ require
  notice_admitted t = go (leb t latest) (leb h t)
    where
      go : (w t : Bool) → is_accepted (require w 3 >> require t 7) ≡ true → (w ≡ true) × (t ≡ true)
      go true true h = (refl, refl)
      go true false h = absurd (false≢true h)
      go false t h = absurd (false≢true h)

  admits_all : (e : Event) → well_formed e ≡ true → leb h e.time ≡ true → ltb n most_events ≡ true → is_accepted (admits n h (takes e)) ≡ true
  unfolding is_accepted admits ◌>>◌ require
  admits_all e w t r = rw (w, t, r)

-- ---- from one course to the next

pub last_horizon : (c : Course) → last_time c.events ≤ horizon c
unfolding horizon
last_horizon c = omega arith

-- the events that a call adds
unfoldable pub added_by : Call → List Event
added_by (takes e) = e ∷ []
added_by (notices t) = []

-- an admitted call adds a continuation, after which nothing comes before the new horizon
pub record GoesOn (c next : Course) (added : List Event) : Type 0 where
  pub events : next.events ≡ c.events ++ added
  pub continues : continuation (horizon c) added ≡ true
  pub later : last_from (horizon c) added ≤ horizon next
  pub cycle : Cycle next.events

taken_later : (c : Course) (e : Event) → last_from (horizon c) (e ∷ []) ≤ horizon (record { events = c.events ++ e ∷ []; clock = c.clock })
unfolding last_from horizon
taken_later c e = omega (arith, last_more c.events e)

noticed_later : (c : Course) (t : ℕ) → horizon c ≤ t → last_from (horizon c) [] ≤ horizon (record { events = c.events; clock = t })
unfolding last_from horizon
noticed_later c t past = omega arith

pub goes_on : (c : Course) (call : Call) → Cycle c.events → is_admitted c call ≡ true → GoesOn c (course_with c call) (added_by call)
unfolding is_admitted course_with added_by continuation non_falling_from all
goes_on c (takes e) cycle h =
    let p = take_admitted (length c.events) (horizon c) e h in
    let more : continuation (horizon c) (e ∷ []) ≡ true = both (both p.1 refl) (both p.0 refl) in
    let few : length c.events < most_events = ltb-true (length c.events) most_events p.2 in
    record {
      events = refl;
      continues = more;
      later = taken_later c e;
      cycle = record {
        formed = all_append well_formed c.events (e ∷ []) cycle.formed (both p.0 refl);
        order = longer_cycle c.events (e ∷ []) (horizon c) cycle.order (last_horizon c) more;
        most = simp length-append (omega arith);
      };
    }
goes_on c (notices t) cycle h =
    let p = notice_admitted (length c.events) (horizon c) t h in
    let past : horizon c ≤ t = leb-true (horizon c) t p.1 in
    record {
      events = sym (append-nil c.events);
      continues = refl;
      later = noticed_later c t past;
      cycle = cycle;
    }

-- so carried over or judged anew, a standing is what the next course says
pub carried_next : (r : Rule) (c next : Course) (added : List Event) (i : ℕ) → valid_rule r ≡ true → Cycle c.events → GoesOn c next added → i ≤ length c.events → carried (standing r c.events (horizon c) i) (standing r next.events (horizon next) i) ≡ standing r next.events (horizon next) i
carried_next r c next added i valid cycle g high =
    let now : standing r next.events (horizon next) i ≡ standing r (c.events ++ added) (horizon next) i =
    ap (λ (l : List Event). standing r l (horizon next) i) g.events in
    rw now
    (carried_standing r c.events added (horizon c) (horizon next) i valid cycle.order (last_horizon c) g.later high g.continues)

-- ---- the events that are taken

pub cycle_after : (c : Course) (calls : List Call) → Cycle c.events → Cycle (course_after c calls).events
unfolding course_after
cycle_after c [] cycle = cycle
cycle_after c (call ∷ calls) cycle = cycle_after (cond (is_admitted c call) (course_with c call) c) calls (go (is_admitted c call) refl)
  where
    go : (t : Bool) → is_admitted c call ≡ t → Cycle (cond t (course_with c call) c).events
    go true q = (goes_on c call cycle q).cycle
    go false q = cycle

pub cycle_of_taken : (calls : List Call) → Cycle (taken calls)
unfolding course
cycle_of_taken calls = cycle_after _ calls empty_cycle

-- ---- all events of a cycle are taken, if no notice comes

-- the course without a notice
abbrev unnoticed : List Event → Course
unnoticed es = record { events = es; clock = 0 }

taken_next : (es : List Event) (e : Event) (more : List Event) → Cycle (es ++ e ∷ more) → is_admitted (unnoticed es) (takes e) ≡ true
unfolding is_admitted horizon non_falling last_time
taken_next es e more s =
    let formed : (well_formed e && all well_formed more) ≡ true = unfold all in and_right (all well_formed es) (all well_formed (e ∷ more)) (sym (all_parts well_formed es (e ∷ more)) ∙ s.formed) in
    let order : (leb (last_from 0 es) e.time && non_falling_from e.time more) ≡ true = unfold non_falling_from in and_right (non_falling_from 0 es) (non_falling_from (last_from 0 es) (e ∷ more)) (sym (non_falling_parts 0 es (e ∷ more)) ∙ s.order) in
    let past : last_from 0 es ≤ e.time = leb-true (last_from 0 es) e.time (and_left (leb (last_from 0 es) e.time) (non_falling_from e.time more) order) in
    admits_all (length es) (max (last_from 0 es) 0) e (and_left (well_formed e) (all well_formed more) formed) (le-leb (max (last_from 0 es) 0) e.time (omega arith))
    (lt-ltb (length es) most_events (omega (arith, length-append es (e ∷ more), s.most)))

taken_all : (es more : List Event) → Cycle (es ++ more) → course_after (unnoticed es) (map takes more) ≡ unnoticed (es ++ more)
unfolding course_after course_with
taken_all es [] s = ap unnoticed (sym (append-nil es))
taken_all es (e ∷ more) s =
    ap (λ (b : Bool). course_after (cond b (unnoticed (es ++ e ∷ [])) (unnoticed es)) (map takes more)) (taken_next es e more s)
    ∙ taken_all (es ++ e ∷ []) more (rw (append_assoc es (e ∷ []) more) s)
    ∙ ap unnoticed (append_assoc es (e ∷ []) more)

pub course_of_cycle : (es : List Event) → Cycle es → course (map takes es) ≡ record { events = es; clock = 0 }
unfolding course
course_of_cycle es s = taken_all [] es s
