-- Occurrences under a rule about the cycle as such: what appended events, and such as may still
-- come, make of them.
--
-- An event past the end that occurs shows that one may. Where one may, two events are a
-- continuation in which the activity occurs, the first at the horizon and the second as soon as the
-- window allows: two, because the first event of a cycle opens the window.
use mathlib.Core.Path.{◌≡◌, refl, sym, ◌∙◌, ap, ap₂}
use mathlib.Core.Bool.{true, false, true≢false, false≢true}
use mathlib.Core.List.{List, [], ◌∷◌, ◌++◌, map}
use Prim.Native.Nat.{ℕ, zero, suc, ◌+◌, ◌-◌, ◌≤◌, ◌<◌}
use native.Mathlib.Omega.{arith}
use borrow.Author.Tests.{leb-true, le-leb, eq-eqb}
use lib.Dec.{leb, eqb}
use lib.ListN.{length, get_or, length-append}
use Rattle.declare.specs.Types.{Event, Reference, Constant, Activation, Comparison, Condition, Test, Rule}
use Rattle.declare.specs.Lists.{all, found, first_up_to}
use Rattle.declare.specs.Comparisons.{reference_of, test_of, passes}
use Rattle.declare.specs.Conditions.{comparisons_of, tests_of, met}
use Rattle.declare.specs.Events.{latest, is_activity, well_formed, non_falling_from, non_falling, last_time, no_event, event_at, first_time, empty_slot}
use Rattle.declare.specs.Rules.{is_reading, valid_reference, valid_comparison, valid_condition, valid_rule}
use Rattle.declare.specs.Suits.{occurs, within, between}
use Rattle.declare.specs.Verdicts.{occurs_at, seen}
use Rattle.declare.specs.Continuations.{continuation}
use Rattle.declare.specs.Reachability.{satisfiable, soonest, has_room, can_occur}
use Rattle.declare.proofs.Booleans.{and_right, and₂, and₃, both, both₃, all_at}
use Rattle.declare.proofs.Positions.{first_same, first_stays, first_cut, Earliest, earliest}
use Rattle.declare.proofs.Satisfiability.{sound, complete, bringing, bringing_time, bringing_activity, bringing_in_range}
use Rattle.declare.proofs.Extension.{event_added, occurs_same, start_first, position_last}
use Rattle.declare.proofs.Arrival.{well_formed_parts, continuation_parts, room, rule_parts, valid_comparisons_lem, tests_named}

-- ---- an activation condition names no reading of another event

reference_same : (a b : Event) (x : Reference) → valid_reference false x ≡ true → reference_of a x ≡ reference_of b x
unfolding valid_reference reference_of
reference_same a b (Constant k) v = refl
reference_same a b (Activation g k) v = absurd (false≢true v)

test_same : (a b : Event) (c : Comparison) → valid_comparison false c ≡ true → test_of a c ≡ test_of b c
unfolding valid_comparison test_of
test_same a b c v =
    ap (λ x. record { reading = c.reading; operator = c.operator; against = x })
    (reference_same a b c.reference (and_right (is_reading c.reading) (valid_reference false c.reference) v))

each_same : (a b : Event) (cs : List Comparison) → all (valid_comparison false) cs ≡ true → map (test_of a) cs ≡ map (test_of b) cs
unfolding all
each_same a b [] v = refl
each_same a b (c ∷ cs) v =
    let p : (valid_comparison false c ≡ true) × (all (valid_comparison false) cs ≡ true) = and₂ v in
    ap₂ ◌∷◌ (test_same a b c p.0) (each_same a b cs p.1)

tests_same : (a b : Event) (c : Condition) → valid_condition false c ≡ true → tests_of a c ≡ tests_of b c
unfolding tests_of
tests_same a b c v = each_same a b (comparisons_of c) (valid_comparisons_lem false c v)

-- ---- what is seen, with more events

module _ (r : Rule) (es added : List Event) where
  longer : length es ≤ length (es ++ added)
  longer = omega (arith, length-append es added)

  first_taken : (k : ℕ) → first_up_to (occurs_at r (es ++ added) k) (length es) ≡ first_up_to (occurs_at r es k) (length es)
  first_taken k = first_same (occurs_at r (es ++ added) k) (occurs_at r es k) (length es) (occurs_same r es added k)

  -- what was seen stays seen
  pub seen_stays : (k : ℕ) → seen r es k ≡ true → seen r (es ++ added) k ≡ true
  unfolding seen
  seen_stays k h = go (first_up_to (occurs_at r es k) (length es)) refl h
    where
      go : (j : ℕ) → first_up_to (occurs_at r es k) (length es) ≡ j → found j ≡ true → found (first_up_to (occurs_at r (es ++ added) k) (length (es ++ added))) ≡ true
      go zero e h = absurd (false≢true h)
      go (suc j) e h = ap found (first_stays (occurs_at r (es ++ added) k) (length es) (length (es ++ added)) j longer (first_taken k ∙ e))

  -- where nothing more occurs, nothing more is
  pub seen_cut : (k : ℕ) → ((j : ℕ) → length es < j → j ≤ length (es ++ added) → occurs_at r (es ++ added) k j ≡ false) → seen r (es ++ added) k ≡ seen r es k
  unfolding seen
  seen_cut k f = ap found (first_cut (occurs_at r (es ++ added) k) (length es) (length (es ++ added)) longer f ∙ first_taken k)

module _ (r : Rule) (es : List Event) (k : ℕ) where
  pub seen_some : (j : ℕ) → 1 ≤ j → j ≤ length es → occurs_at r es k j ≡ true → seen r es k ≡ true
  unfolding seen
  seen_some j a b o = go (first_up_to (occurs_at r es k) (length es)) (earliest (occurs_at r es k) (length es))
    where
      go : (f : ℕ) → Earliest (occurs_at r es k) (length es) f → found f ≡ true
      go zero e = absurd (true≢false (sym o ∙ e j a b))
      go (suc f) e = refl

  pub seen_none : ((j : ℕ) → 1 ≤ j → j ≤ length es → occurs_at r es k j ≡ false) → seen r es k ≡ false
  unfolding seen
  seen_none none = go (first_up_to (occurs_at r es k) (length es)) (earliest (occurs_at r es k) (length es))
    where
      go : (f : ℕ) → Earliest (occurs_at r es k) (length es) f → found f ≡ false
      go zero e = refl
      go (suc f) e = absurd (true≢false (sym e.1 ∙ none (suc f) (omega arith) e.0))

  -- what is seen occurs somewhere
  pub seen_at : seen r es k ≡ true → (j : ℕ) × (1 ≤ j) × (j ≤ length es) × (occurs_at r es k j ≡ true)
  unfolding seen
  seen_at h = go (first_up_to (occurs_at r es k) (length es)) (earliest (occurs_at r es k) (length es)) h
    where
      go : (f : ℕ) → Earliest (occurs_at r es k) (length es) f → found f ≡ true → (j : ℕ) × (1 ≤ j) × (j ≤ length es) × (occurs_at r es k j ≡ true)
      go zero e h = absurd (false≢true h)
      go (suc f) e h = (suc f, omega arith, e.0, e.1)

-- ---- an event that occurs shows that one may

pub occurs_parts : (r : Rule) (es : List Event) (k j : ℕ) → occurs_at r es k j ≡ true → (eqb (event_at es j).activity k ≡ true) × (met r.condition (event_at es j) (event_at es j) ≡ true) × (within r.window (between (first_time 0 es) (event_at es j).time) ≡ true)
unfolding occurs_at occurs
occurs_parts r es k j h = and₃ h

first_le : (h : ℕ) (f : Event) (more : List Event) (k : ℕ) → non_falling_from h (f ∷ more) ≡ true → k < length (f ∷ more) → f.time ≤ (get_or (f ∷ more) k no_event).time
unfolding non_falling_from
first_le h f more zero n l = omega arith
first_le h f more (suc k) n l = start_first f.time more k (and_right (leb h f.time) (non_falling_from f.time more) n) (omega arith)

later_by : (h d : ℕ) → between h (h + d) ≡ d
later_by h d = omega arith

module _ (r : Rule) (h : ℕ) where
  room_from : (s : ℕ) {d : ℕ} → h ≤ s → s ≤ latest → between h s ≡ d → within r.window d ≡ true → has_room r.window h h ≡ true
  room_from s a b e w = room r.window h h s (omega arith) a b (rw e w)

  has_room_lem : (es added : List Event) (k : ℕ) → non_falling es ≡ true → last_time es ≤ h → k < length added → continuation h added ≡ true → within r.window (between (first_time 0 (es ++ added)) (get_or added k no_event).time) ≡ true → has_room r.window (first_time h es) h ≡ true
  unfolding first_time
  has_room_lem [] [] k falls past l more w = absurd (omega arith)
  has_room_lem [] (f ∷ later) k falls past l more w =
      let c = continuation_parts h (f ∷ later) more in
      let t : ℕ = (get_or (f ∷ later) k no_event).time in
      let after : f.time ≤ t = first_le h f later k c.0 l in
      let late : h ≤ f.time = start_first h (f ∷ later) 0 c.0 (omega arith) in
      let top : t ≤ latest = leb-true t latest (well_formed_parts _ (all_at well_formed (f ∷ later) k no_event c.1 l)).0 in
      let in_range_lem : h + (t - f.time) ≤ latest = omega arith in
      let since : between f.time t ≡ t - f.time = omega arith in
      room_from (h + (t - f.time)) (omega arith) in_range_lem (later_by h (t - f.time) ∙ sym since) w
  has_room_lem (e ∷ es) added k falls past l more w =
      let c = continuation_parts h added more in
      let t : ℕ = (get_or added k no_event).time in
      let late : h ≤ t = start_first h added k c.0 l in
      let top : t ≤ latest = leb-true t latest (well_formed_parts _ (all_at well_formed added k no_event c.1 l)).0 in
      let first : e.time ≤ last_time (e ∷ es) = unfold event_at in position_last (e ∷ es) 1 falls (omega arith) (omega arith) in
      room r.window e.time h t (omega arith) late top w

  pub shows : valid_rule r ≡ true → (es added : List Event) (k j : ℕ) → non_falling es ≡ true → last_time es ≤ h → length es < j → j ≤ length (es ++ added) → continuation h added ≡ true → occurs_at r (es ++ added) k j ≡ true → can_occur r es h ≡ true
  unfolding can_occur met
  shows valid es added k j falls past beyond end more o =
      let i : ℕ = j - suc (length es) in
      let e : Event = get_or added i no_event in
      let l : i < length added = omega (arith, length-append es added) in
      let c = continuation_parts h added more in
      let p = occurs_parts r (es ++ added) k j o in
      let here : event_at (es ++ added) j ≡ e = event_added es added j beyond in
      let w = well_formed_parts e (all_at well_formed added i no_event c.1 l) in
      let m : all (passes e) (tests_of e r.condition) ≡ true = rw here at p.1 in
      both (has_room_lem es added i falls past l more (rw here at p.2))
      (sound (tests_of empty_slot r.condition) e w.2 (rw (tests_same e empty_slot r.condition (rule_parts r valid).condition) at m))

-- ---- where one may occur, two events in which it does

module _ (r : Rule) (valid : valid_rule r ≡ true) (es : List Event) (h k : ℕ) (active : is_activity k ≡ true) (can : can_occur r es h ≡ true) where
  ts : List Test
  ts = tests_of empty_slot r.condition

  soon : ℕ
  soon = soonest r.window (first_time h es) h

  pub coming : List Event
  coming = bringing ts h k ∷ bringing ts soon k ∷ []

  can_parts : (has_room r.window (first_time h es) h ≡ true) × (satisfiable ts ≡ true)
  unfolding can_occur ts
  can_parts = and₂ can

  room_parts : (leb soon latest ≡ true) × (within r.window (soon - first_time h es) ≡ true)
  unfolding has_room soon
  room_parts = and₂ can_parts.0

  not_before : h ≤ soon
  unfolding soon soonest
  not_before = omega arith

  well : (t : ℕ) → t ≤ latest → well_formed (bringing ts t k) ≡ true
  unfolding well_formed
  well t l =
      let time : leb (bringing ts t k).time latest ≡ true = rw (bringing_time ts t k) (le-leb t latest l) in
      let activity : is_activity (bringing ts t k).activity ≡ true = rw (bringing_activity ts t k) active in
      both₃ time activity (bringing_in_range ts can_parts.1 t k)

  pub continues : continuation h coming ≡ true
  unfolding continuation non_falling_from all coming
  continues =
      let top : soon ≤ latest = leb-true soon latest room_parts.0 in
      let l = not_before in
      let first : leb h (bringing ts h k).time ≡ true = rw (bringing_time ts h k) (le-leb h h (omega arith)) in
      let next : leb (bringing ts h k).time (bringing ts soon k).time ≡ true = rw (bringing_time ts h k, bringing_time ts soon k) (le-leb h soon l) in
      both (both first (both next refl)) (both (well h (omega arith)) (both (well soon top) refl))

  start_is : first_time 0 (es ++ coming) ≡ first_time h es
  start_is = go es
    where
      go : (l : List Event) → first_time 0 (l ++ coming) ≡ first_time h l
      go [] = unfold first_time coming in bringing_time ts h k
      go (e ∷ l) = unfold first_time in refl

  last_is : event_at (es ++ coming) (suc (suc (length es))) ≡ bringing ts soon k
  unfolding coming
  last_is =
      let z : suc (suc (length es)) - suc (length es) ≡ 1 = omega arith in
      event_added es coming (suc (suc (length es))) (omega arith) ∙ ap (λ (i : ℕ). get_or coming i no_event) z

  meets : met r.condition (bringing ts soon k) (bringing ts soon k) ≡ true
  unfolding met ts
  meets =
      rw (tests_same (bringing ts soon k) empty_slot r.condition (rule_parts r valid).condition)
      (complete ts can_parts.1 soon k (tests_named empty_slot false r.condition (rule_parts r valid).condition))

  pub occurs_last : occurs_at r (es ++ coming) k (suc (suc (length es))) ≡ true
  unfolding occurs_at occurs
  occurs_last =
      let activity : eqb (bringing ts soon k).activity k ≡ true = rw (bringing_activity ts soon k) (eq-eqb k k refl) in
      let apart : between (first_time h es) soon ≡ soon - first_time h es = unfold soon soonest in omega arith in
      let inside : within r.window (between (first_time h es) (bringing ts soon k).time) ≡ true = rw (bringing_time ts soon k, apart) room_parts.1 in
      rw (last_is, start_is) (both₃ activity meets inside)

  pub long : length (es ++ coming) ≡ suc (suc (length es))
  unfolding coming
  long = simp length-append (omega arith)

  -- it is seen
  pub seen_coming : seen r (es ++ coming) k ≡ true
  seen_coming = seen_some r (es ++ coming) k (suc (suc (length es))) (omega arith) (omega (arith, long)) occurs_last

  -- and nothing else more
  activity_coming : (j : ℕ) → length es < j → j ≤ length (es ++ coming) → (event_at (es ++ coming) j).activity ≡ k
  unfolding coming
  activity_coming j a b = ap (λ (e : Event). e.activity) (event_added es coming j a) ∙ go (j - suc (length es)) (omega (arith, long))
    where
      go : (i : ℕ) → i < 2 → (get_or coming i no_event).activity ≡ k
      go zero l = bringing_activity ts h k
      go (suc zero) l = bringing_activity ts soon k
      go (suc (suc i)) l = absurd (omega arith)

  pub others_same : (m : ℕ) → eqb k m ≡ false → seen r (es ++ coming) m ≡ seen r es m
  others_same m apart = seen_cut r es coming m (λ j a b. unfold occurs_at occurs in rw (activity_coming j a b, apart) refl)
