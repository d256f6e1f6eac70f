-- An eligible event can come exactly if some continuation has one.
--
-- One way: an eligible event past the end shows that the window still has room, that the next
-- position is in reach, and that the correlation is satisfiable. The other way: the soonest event
-- with the chosen readings, at the next position, is eligible.
use Rattle.std.specs.Prelude.{None, Some}
use mathlib.Core.Path.{◌≡◌, refl, sym, ◌∙◌}
use mathlib.Core.Bool.{Bool, true, false}
use mathlib.Core.List.{List, [], ◌∷◌, ◌++◌}
use Prim.Native.Nat.{ℕ, suc, ◌+◌, ◌-◌, max, ◌≤◌, ◌<◌}
use native.Mathlib.Omega.{arith}
use borrow.Author.Tests.{ltb-true, leb-true, lt-ltb, le-leb, eq-eqb}
use lib.Dec.{leb, eqb}
use lib.ListN.{length, get_or, length-append}
use Rattle.declare.specs.Types.{Event, Comparison, Condition, End, Window, Rule}
use Rattle.declare.specs.Lists.{all}
use Rattle.declare.specs.Limits.{most_comparisons}
use Rattle.declare.specs.Comparisons.{test_of, passes}
use Rattle.declare.specs.Conditions.{comparisons_of, tests_of, met}
use Rattle.declare.specs.Events.{latest, is_activity, readings_in_range, well_formed, non_falling_from, non_falling, last_time, no_event, event_at}
use Rattle.declare.specs.Rules.{is_template, is_reading, valid_comparison, valid_condition, valid_window, valid_head, fits_template, valid_rule}
use Rattle.declare.specs.Suits.{activation_at, before_end, within, between, correlates, suits}
use Rattle.declare.specs.Templates.{in_reach, reach_of}
use Rattle.declare.specs.Verdicts.{eligible}
use Rattle.declare.specs.Continuations.{continuation}
use Rattle.declare.specs.Reachability.{satisfiable, soonest, has_room, can_come}
use Rattle.declare.proofs.Booleans.{and_left, and_right, and₂, and₃, and₄, both, both₃, all_at, all_map}
use Rattle.declare.proofs.Positions.{reach_next}
use Rattle.declare.proofs.Satisfiability.{sound, complete, bringing, bringing_time, bringing_activity, bringing_in_range}
use Rattle.declare.proofs.Zero.{eligible_event}
use Rattle.declare.proofs.Extension.{event_same, event_added, event_next, in_reach_same, start_first, position_last}

-- ---- the parts of the definitions

pub well_formed_parts : (e : Event) → well_formed e ≡ true → (leb e.time latest ≡ true) × (is_activity e.activity ≡ true) × (readings_in_range e ≡ true)
unfolding well_formed
well_formed_parts e h = and₃ h

within_parts : (w : Window) (d : ℕ) → within w d ≡ true → (leb w.from d ≡ true) × (before_end d w.until ≡ true)
unfolding within
within_parts w d h = and₂ h

suits_parts : (r : Rule) (a e : Event) → suits r a e ≡ true → (correlates r a e ≡ true) × (within r.window (between a.time e.time) ≡ true)
unfolding suits
suits_parts r a e h = and₂ h

correlates_parts : (r : Rule) (a e : Event) → correlates r a e ≡ true → (eqb e.activity r.target ≡ true) × (all (passes e) (tests_of a r.correlation) ≡ true)
unfolding correlates met
correlates_parts r a e h = and₂ h

pub eligible_parts : (r : Rule) (es : List Event) (i j : ℕ) → 1 ≤ i → eligible r es i j ≡ true → (suits r (event_at es i) (event_at es j) ≡ true) × (in_reach (reach_of r) (activation_at r es) i j ≡ true)
eligible_parts r es i j low h = and₂ (sym (eligible_event r es i low j) ∙ h)

pub continuation_parts : (h : ℕ) (added : List Event) → continuation h added ≡ true → (non_falling_from h added ≡ true) × (all well_formed added ≡ true)
unfolding continuation
continuation_parts h added c = and₂ c

-- ---- an event that suits shows that the window has room

before_down : (u : End) (c d : ℕ) → c ≤ d → before_end d u ≡ true → before_end c u ≡ true
unfolding before_end
before_down None c d l h = refl
before_down (Some b) c d l h = lt-ltb c b (omega (arith, ltb-true d b h))

pub room : (w : Window) (t h s : ℕ) → t ≤ h → h ≤ s → s ≤ latest → within w (between t s) ≡ true → has_room w t h ≡ true
unfolding has_room within soonest
room w t h s a b c k =
    let p = within_parts w (between t s) k in
    let f : w.from ≤ between t s = leb-true w.from (between t s) p.0 in
    let in_range_lem : max h (t + w.from) ≤ latest = omega arith in
    let at_least : w.from ≤ max h (t + w.from) - t = omega arith in
    let no-later : max h (t + w.from) - t ≤ between t s = omega arith in
    both (le-leb (max h (t + w.from)) latest in_range_lem)
    (both (le-leb w.from (max h (t + w.from) - t) at_least) (before_down w.until (max h (t + w.from) - t) (between t s) no-later p.1))

-- an eligible event in a continuation could come
pub comes : (r : Rule) (es added : List Event) (h i j : ℕ) → non_falling es ≡ true → last_time es ≤ h → 1 ≤ i → i ≤ length es → length es < j → j ≤ length (es ++ added) → continuation h added ≡ true → eligible r (es ++ added) i j ≡ true → can_come r es h i ≡ true
unfolding can_come
comes r es added h i j falls past low high beyond end more eligible-there =
    let a : Event = event_at es i in
    let e : Event = get_or added (j - suc (length es)) no_event in
    let l : j - suc (length es) < length added = omega (arith, length-append es added) in
    let c = continuation_parts h added more in
    let g = eligible_parts r (es ++ added) i j low eligible-there in
    let w = well_formed_parts e (all_at well_formed added (j - suc (length es)) no_event c.1 l) in
    let u : suits r a e ≡ true = rw (← event_same es added i low high, ← event_added es added j beyond) g.0 in
    let s = suits_parts r a e u in
    let reached : in_reach (reach_of r) (activation_at r es) i (suc (length es)) ≡ true =
    sym (in_reach_same r es added i (suc (length es)) high (omega arith))
    ∙ reach_next (reach_of r) (activation_at r (es ++ added)) (length es) i j high beyond g.1 in
    let t : a.time ≤ h = omega (arith, position_last es i falls low high) in
    both₃ reached
    (room r.window a.time h e.time t (start_first h added (j - suc (length es)) c.0 l) (leb-true e.time latest w.0) s.1)
    (sound (tests_of a r.correlation) e w.2 (correlates_parts r a e s.0).1)

-- ---- where one can come, an event that is eligible

pub coming : Rule → List Event → ℕ → ℕ → Event
coming r es h i =
    bringing (tests_of (event_at es i) r.correlation) (soonest r.window (event_at es i).time h) r.target

coming_time : (r : Rule) (es : List Event) (h i : ℕ) → (coming r es h i).time ≡ soonest r.window (event_at es i).time h
unfolding coming
coming_time r es h i = bringing_time (tests_of (event_at es i) r.correlation) (soonest r.window (event_at es i).time h) r.target

coming_activity : (r : Rule) (es : List Event) (h i : ℕ) → (coming r es h i).activity ≡ r.target
unfolding coming
coming_activity r es h i = bringing_activity (tests_of (event_at es i) r.correlation) (soonest r.window (event_at es i).time h) r.target

-- what a valid rule is
pub record ValidRule (r : Rule) : Type 0 where
  pub template : is_template r.code ≡ true
  pub activation : is_activity r.activation ≡ true
  pub target : is_activity r.target ≡ true
  pub window : valid_window r.window ≡ true
  pub condition : valid_condition false r.condition ≡ true
  pub correlation : valid_condition true r.correlation ≡ true
  pub fits : fits_template r ≡ true

pub rule_parts : (r : Rule) → valid_rule r ≡ true → ValidRule r
unfolding valid_rule valid_head
rule_parts r valid =
    let p : (valid_head r ≡ true) × (valid_condition false r.condition ≡ true) × (valid_condition true r.correlation ≡ true) × (fits_template r ≡ true) = and₄ valid in
    let h : (is_template r.code ≡ true) × (is_activity r.activation ≡ true) × (is_activity r.target ≡ true) × (valid_window r.window ≡ true) = and₄ p.0 in
    record { template = h.0; activation = h.1; target = h.2; window = h.3; condition = p.1; correlation = p.2; fits = p.3 }

-- the tests of a valid condition name readings of an event
pub readings_named : (a : Event) (correlation : Bool) (c : Comparison) → valid_comparison correlation c ≡ true → is_reading (test_of a c).reading ≡ true
unfolding valid_comparison test_of
readings_named a correlation c h = and_left _ _ h

pub valid_comparisons_lem : (correlation : Bool) (c : Condition) → valid_condition correlation c ≡ true → all (valid_comparison correlation) (comparisons_of c) ≡ true
unfolding valid_condition
valid_comparisons_lem correlation c v = and_right (leb c.count most_comparisons) _ v

pub tests_named : (a : Event) (correlation : Bool) (c : Condition) → valid_condition correlation c ≡ true → all (λ t. is_reading t.reading) (tests_of a c) ≡ true
unfolding tests_of
tests_named a correlation c v =
    all_map (test_of a) (λ t. is_reading t.reading) (valid_comparison correlation) (comparisons_of c) (readings_named a correlation) (valid_comparisons_lem correlation c v)

module _ (r : Rule) (es : List Event) (h i : ℕ) (valid : valid_rule r ≡ true) (come : can_come r es h i ≡ true) where
  come_parts : (in_reach (reach_of r) (activation_at r es) i (suc (length es)) ≡ true) × (has_room r.window (event_at es i).time h ≡ true) × (satisfiable (tests_of (event_at es i) r.correlation) ≡ true)
  unfolding can_come
  come_parts = and₃ come

  room_parts : (leb (soonest r.window (event_at es i).time h) latest ≡ true) × (within r.window (soonest r.window (event_at es i).time h - (event_at es i).time) ≡ true)
  unfolding has_room
  room_parts = and₂ come_parts.1

  coming_well_formed : well_formed (coming r es h i) ≡ true
  unfolding well_formed
  coming_well_formed =
      let readings : readings_in_range (coming r es h i) ≡ true =
      unfold coming in bringing_in_range (tests_of (event_at es i) r.correlation) come_parts.2 (soonest r.window (event_at es i).time h) r.target in
      let time : leb (coming r es h i).time latest ≡ true = rw (coming_time r es h i) room_parts.0 in
      let activity : is_activity (coming r es h i).activity ≡ true = rw (coming_activity r es h i) (rule_parts r valid).target in
      both₃ time activity readings

  pub coming_continues : continuation h (coming r es h i ∷ []) ≡ true
  unfolding continuation non_falling_from all
  coming_continues =
      let l : h ≤ (coming r es h i).time = rw (coming_time r es h i) (unfold soonest in omega arith) in
      both (both (le-leb h (coming r es h i).time l) refl) (both coming_well_formed refl)

  coming_met : met r.correlation (event_at es i) (coming r es h i) ≡ true
  unfolding met coming
  coming_met =
      complete (tests_of (event_at es i) r.correlation) come_parts.2 (soonest r.window (event_at es i).time h) r.target (tests_named (event_at es i) true r.correlation (rule_parts r valid).correlation)

  coming_suits : suits r (event_at es i) (coming r es h i) ≡ true
  unfolding suits correlates
  coming_suits =
      let apart : between (event_at es i).time (coming r es h i).time ≡ soonest r.window (event_at es i).time h - (event_at es i).time =
      rw (coming_time r es h i) (unfold soonest in omega arith) in
      both (both (eq-eqb _ _ (coming_activity r es h i)) coming_met) (rw apart room_parts.1)

  pub coming_eligible : 1 ≤ i → i ≤ length es → eligible r (es ++ coming r es h i ∷ []) i (suc (length es)) ≡ true
  coming_eligible low high =
      let s : suits r (event_at (es ++ coming r es h i ∷ []) i) (event_at (es ++ coming r es h i ∷ []) (suc (length es))) ≡ true =
      rw (event_next es (coming r es h i), event_same es (coming r es h i ∷ []) i low high) coming_suits in
      eligible_event r (es ++ coming r es h i ∷ []) i low (suc (length es))
      ∙ both s (in_reach_same r es (coming r es h i ∷ []) i (suc (length es)) high (omega arith) ∙ come_parts.0)
