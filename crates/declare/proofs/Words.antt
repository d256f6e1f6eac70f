-- The definitions compute what document 01's sentences say.
use mathlib.Core.Path.{◌≡◌, refl, sym, subst, ◌∙◌, ap}
use mathlib.Core.Logic.{◌↔◌}
use mathlib.Core.Bool.{Bool, true, false, not, cond, ◌&&◌, and-false, true≢false, false≢true}
use mathlib.Core.List.{List, [], ◌∷◌, ◌++◌}
use Prim.Native.Nat.{ℕ, zero, suc, ◌+◌, ◌-◌, max, ◌≤◌, ◌<◌}
use native.Mathlib.Omega.{arith}
use native.Mathlib.Nat.{not-suc-le-zero, le_of_suc-le-suc}
use native.Mathlib.Decide.{ℕ_discrete}
use borrow.Author.Tests.{ltb-true, leb-true, leb-false, eqb-true, lt-ltb, lt-leb, le-leb, eq-eqb, ne_eqb, not-true}
use lib.Dec.{leb, ltb, eqb}
use lib.ListN.{length, get_or}
use Rattle.declare.specs.Types.{Event, Test, Reach, Anywhere, AtOrAfter, AlternateAfter, Next, AtOrBefore, AlternateBefore, Previous, Polarity, Positive, Negative, Rule, Idle, Open}
use Rattle.declare.specs.Lists.{all, none_between}
use Rattle.declare.specs.Conditions.{met}
use Rattle.declare.specs.Events.{well_formed, non_falling_from, non_falling, last_from, last_time, no_event, event_at}
use Rattle.declare.specs.Rules.{is_reading}
use Rattle.declare.specs.Suits.{activation_at, before_end, within, between, correlates, suits}
use Rattle.declare.specs.Templates.{templates, template_of, in_reach, reach_of, polarity_of}
use Rattle.declare.specs.Verdicts.{target, decided, formula_of, fulfilled_if, decision, verdict}
use Rattle.declare.specs.Continuations.{Course, horizon, continuation}
use Rattle.declare.specs.Reachability.{satisfiable, can_come, standing}
use Rattle.declare.specs.Standings.{is_fulfilled, is_violated}
use Rattle.declare.specs.Words.{NeverFall, Suits, NoActivationBetween, Eligible, Twelve, SomeEligible, NoneEligible, MayName, target_in, unnamed, Unmoved, Judged, Satisfiable, Words}
use Rattle.declare.proofs.Booleans.{and_left, and_right, and₂, both}
use Rattle.declare.proofs.Extension.{non_falling_parts}
use Rattle.declare.proofs.Satisfiability.{sound, complete, bringing, bringing_in_range}
use Rattle.declare.proofs.Targets.{named, only_named}
use Rattle.declare.proofs.Zero.{eligible_event, decision_event, undecided_event, active_event}
use Rattle.declare.proofs.OverallWords.{before_reads, four}
use Rattle.declare.proofs.Exactness.{verdict_is}

-- ---- times

falls→ : (es : List Event) (s : ℕ) → non_falling_from s es ≡ true → (k : ℕ) → suc k < length es → (get_or es k no_event).time ≤ (get_or es (suc k) no_event).time
unfolding non_falling_from
falls→ [] s h k l = absurd (not-suc-le-zero l)
falls→ (e ∷ []) s h k l = absurd (not-suc-le-zero (le_of_suc-le-suc l))
falls→ (e ∷ f ∷ es) s h zero l =
    leb-true e.time f.time (and_left (leb e.time f.time) (non_falling_from f.time es) (and_right (leb s e.time) (leb e.time f.time && non_falling_from f.time es) h))
falls→ (e ∷ f ∷ es) s h (suc k) l =
    falls→ (f ∷ es) e.time (and_right (leb s e.time) (leb e.time f.time && non_falling_from f.time es) h) k (le_of_suc-le-suc l)

falls← : (es : List Event) (s : ℕ) → s ≤ (get_or es 0 no_event).time → ((k : ℕ) → suc k < length es → (get_or es k no_event).time ≤ (get_or es (suc k) no_event).time) → non_falling_from s es ≡ true
unfolding non_falling_from
falls← [] s l f = refl
falls← (e ∷ []) s l f = both (le-leb s e.time l) refl
falls← (e ∷ g ∷ es) s l f =
    both (le-leb s e.time l) (falls← (g ∷ es) e.time (f 0 (omega arith)) (λ k m. f (suc k) (omega arith)))

times : (es : List Event) → (non_falling es ≡ true) ↔ NeverFall es
unfolding non_falling event_at
times es = (to, from)
  where
    to : non_falling_from 0 es ≡ true → (k : ℕ) → 1 ≤ k → k < length es → (get_or es (k - 1) no_event).time ≤ (get_or es (k + 1 - 1) no_event).time
    to h k a b =
        let p : k + 1 - 1 ≡ suc (k - 1) = omega arith in
        rw p (falls→ es 0 h (k - 1) (omega arith))

    from : ((k : ℕ) → 1 ≤ k → k < length es → (get_or es (k - 1) no_event).time ≤ (get_or es (k + 1 - 1) no_event).time) → non_falling_from 0 es ≡ true
    from f = falls← es 0 (omega arith) (λ k l. at k l)
      where
        at : (k : ℕ) → suc k < length es → (get_or es k no_event).time ≤ (get_or es (suc k) no_event).time
        at k l =
            let p : suc k - 1 ≡ k = omega arith in
            let q : suc k + 1 - 1 ≡ suc k = omega arith in
            rw (p, q) at (f (suc k) (omega arith) l)

-- ---- suits

suited : (r : Rule) (a e : Event) → (suits r a e ≡ true) ↔ Suits r a e
unfolding suits correlates within
suited r a e = (to, from)
  where
    d : ℕ
    d = between a.time e.time

    to : ((eqb e.activity r.target && met r.correlation a e) && (leb r.window.from d && before_end d r.window.until)) ≡ true → Suits r a e
    to h =
        let p : ((eqb e.activity r.target && met r.correlation a e) ≡ true) × ((leb r.window.from d && before_end d r.window.until) ≡ true) = and₂ h in
        let q : (eqb e.activity r.target ≡ true) × (met r.correlation a e ≡ true) = and₂ p.0 in
        let w : (leb r.window.from d ≡ true) × (before_end d r.window.until ≡ true) = and₂ p.1 in
        record {
          has_target_activity = eqb-true e.activity r.target q.0;
          meets_correlation = q.1;
          at_least_a = leb-true r.window.from d w.0;
          below_b = (before_reads d r.window.until).0 w.1;
        }

    from : Suits r a e → ((eqb e.activity r.target && met r.correlation a e) && (leb r.window.from d && before_end d r.window.until)) ≡ true
    from s =
        both (both (eq-eqb e.activity r.target s.has_target_activity) s.meets_correlation)
        (both (le-leb r.window.from d s.at_least_a) ((before_reads d r.window.until).1 s.below_b))

-- ---- none between

abbrev NoneBetween : (ℕ → Bool) → ℕ → ℕ → Type 0
NoneBetween p low high = (k : ℕ) → low < k → k < high → p k ≡ false

between→ : (p : ℕ → Bool) (low high : ℕ) → none_between p low high ≡ true → NoneBetween p low high
unfolding none_between
between→ p low zero h k a b = absurd (not-suc-le-zero b)
between→ p low (suc m) h k a b = go (ℕ_discrete k m) (between→ p low m (and_left _ _ h) k a)
  where
    go : Dec (k ≡ m) → (k < m → p k ≡ false) → p k ≡ false
    go (yes e) f =
        rw e (sym (ap (λ (t : Bool). t && p m) (lt-ltb low m (omega arith))) ∙ not-true (ltb low m && p m) (and_right (none_between p low m) _ h))
    go (no n) f = f (omega arith)

between← : (p : ℕ → Bool) (low high : ℕ) → NoneBetween p low high → none_between p low high ≡ true
unfolding none_between
between← p low zero f = refl
between← p low (suc m) f = both (between← p low m (λ k a b. f k a (omega arith))) (ap not (go (ltb low m) refl))
  where
    go : (t : Bool) → ltb low m ≡ t → (t && p m) ≡ false
    go true e = f m (ltb-true low m e) (omega arith)
    go false e = refl

pub between_reads : (p : ℕ → Bool) (low high : ℕ) → (none_between p low high ≡ true) ↔ NoneBetween p low high
between_reads p low high = (between→ p low high, between← p low high)

alternate : (p : ℕ → Bool) (i j : ℕ) → ((ltb i j && none_between p i j) ≡ true) ↔ ((i < j) × NoneBetween p i j)
alternate p i j = (
  (λ h. (ltb-true i j (and_left _ _ h), between→ p i j (and_right (ltb i j) _ h))),
  (λ q. both (lt-ltb i j q.0) (between← p i j q.1)),
)

-- ---- the twelve templates

-- what the reach of a code asks of positions i and j
module _ (r : Rule) (es : List Event) (i j : ℕ) where
  eligible_as : (low : 1 ≤ i) (code : ℕ) (R : Reach) (P : Type 0) → (template_of code).reach ≡ R → ((in_reach R (activation_at r es) i j ≡ true) ↔ P) → Eligible code r es i j P
  eligible_as low code R P q asks c = rw (eligible_event r es i low j) (to, from)
    where
      reach_is : in_reach (reach_of r) (activation_at r es) i j ≡ in_reach R (activation_at r es) i j
      reach_is = ap (λ (k : ℕ). in_reach (template_of k).reach (activation_at r es) i j) c ∙ ap (λ (S : Reach). in_reach S (activation_at r es) i j) q

      to : (suits r (event_at es i) (event_at es j) && in_reach (reach_of r) (activation_at r es) i j) ≡ true → Suits r (event_at es i) (event_at es j) × P
      to h =
          let p : (suits r (event_at es i) (event_at es j) ≡ true) × (in_reach (reach_of r) (activation_at r es) i j ≡ true) = and₂ h in
          ((suited r (event_at es i) (event_at es j)).0 p.0, asks.0 (sym reach_is ∙ p.1))

      from : Suits r (event_at es i) (event_at es j) × P → (suits r (event_at es i) (event_at es j) && in_reach (reach_of r) (activation_at r es) i j) ≡ true
      from p = both ((suited r (event_at es i) (event_at es j)).1 p.0) (reach_is ∙ asks.1 p.1)

  pub twelve : 1 ≤ i → Twelve r es i j
  unfolding in_reach template_of templates
  twelve low =
      record {
        responded_existence = eligible_as low 1 Anywhere (Unit {0}) refl ((λ _. tt), (λ _. refl));
        response = eligible_as low 2 AtOrAfter (i ≤ j) refl (leb-true i j, le-leb i j);
        alternate_response = eligible_as low 3 AlternateAfter ((i < j) × NoActivationBetween r es i j) refl (alternate (activation_at r es) i j);
        chain_response = eligible_as low 4 Next (j ≡ i + 1) refl (eqb-true j (i + 1), eq-eqb j (i + 1));
        precedence = eligible_as low 5 AtOrBefore (j ≤ i) refl (leb-true j i, le-leb j i);
        alternate_precedence = eligible_as low 6 AlternateBefore ((j < i) × NoActivationBetween r es j i) refl (alternate (activation_at r es) j i);
        chain_precedence = eligible_as low 7 Previous (j + 1 ≡ i) refl (eqb-true (j + 1) i, eq-eqb (j + 1) i);
        not_responded_existence = eligible_as low 8 Anywhere (Unit {0}) refl ((λ _. tt), (λ _. refl));
        not_response = eligible_as low 9 AtOrAfter (i ≤ j) refl (leb-true i j, le-leb i j);
        not_precedence = eligible_as low 10 AtOrBefore (j ≤ i) refl (leb-true j i, le-leb j i);
        not_chain_response = eligible_as low 11 Next (j ≡ i + 1) refl (eqb-true j (i + 1), eq-eqb j (i + 1));
        not_chain_precedence = eligible_as low 12 Previous (j + 1 ≡ i) refl (eqb-true (j + 1) i, eq-eqb (j + 1) i);
      }

-- ---- the verdict

pub positive : (code : ℕ) → 1 ≤ code → code ≤ 7 → (template_of code).polarity ≡ Positive
unfolding template_of templates
positive zero a b = absurd (not-suc-le-zero a)
positive (suc zero) a b = refl
positive (suc (suc zero)) a b = refl
positive (suc (suc (suc zero))) a b = refl
positive (suc (suc (suc (suc zero)))) a b = refl
positive (suc (suc (suc (suc (suc zero))))) a b = refl
positive (suc (suc (suc (suc (suc (suc zero)))))) a b = refl
positive (suc (suc (suc (suc (suc (suc (suc zero))))))) a b = refl
positive (suc (suc (suc (suc (suc (suc (suc (suc k)))))))) a b = absurd (omega arith)

pub negative : (code : ℕ) → 8 ≤ code → code ≤ 12 → (template_of code).polarity ≡ Negative
negative code a b = subst (λ (k : ℕ). (template_of k).polarity ≡ Negative) (omega arith) (from_8 (code - 8) (omega arith))
  where
    from_8 : (k : ℕ) → k < 5 → (template_of (8 + k)).polarity ≡ Negative
    from_8 zero a = unfold template_of templates in refl
    from_8 (suc zero) a = unfold template_of templates in refl
    from_8 (suc (suc zero)) a = unfold template_of templates in refl
    from_8 (suc (suc (suc zero))) a = unfold template_of templates in refl
    from_8 (suc (suc (suc (suc zero)))) a = unfold template_of templates in refl
    from_8 (suc (suc (suc (suc (suc k))))) a = absurd (omega arith)

-- a decision names its target
target_in_lem : (r : Rule) (es : List Event) (i : ℕ) → target_in (decision r es i) ≡ target r es i
unfolding decision target_in
target_in_lem r es i = go (eqb i 0)
  where
    by_formula : (t : Bool) (j : ℕ) → target_in (fulfilled_if t j) ≡ j
    by_formula true j = refl
    by_formula false j = refl

    by_target : (p : Polarity) (j : ℕ) → target_in (decided p j) ≡ j
    by_target Positive zero = unfold decided in refl
    by_target Positive (suc j) = unfold decided in refl
    by_target Negative zero = unfold decided in refl
    by_target Negative (suc j) = unfold decided in refl

    go : (z : Bool) → target_in (cond z (fulfilled_if (formula_of r es) (target r es i)) (decided (polarity_of r) (target r es i))) ≡ target r es i
    go true = by_formula (formula_of r es) (target r es i)
    go false = by_target (polarity_of r) (target r es i)

-- a target other than 0 is eligible, and at 0 none is
module _ (r : Rule) (es : List Event) (i : ℕ) where
  pub not_both : SomeEligible r es i → NoneEligible r es i → ⊥
  not_both s n = true≢false (sym s.3 ∙ n s.0 s.1 s.2)

  some : (j : ℕ) → MayName r es i (suc j) → SomeEligible r es i
  some j n = (suc j, omega arith, n.0, n.1)

  -- a test of the target that passes just where there is one, and one that passes just where there
  -- is none
  pub tells_some : (t : ℕ → Bool) → t 0 ≡ false → ((j : ℕ) → t (suc j) ≡ true) → (j : ℕ) → MayName r es i j → (t j ≡ true) ↔ SomeEligible r es i
  tells_some t a b zero n = ((λ h. absurd (false≢true (sym a ∙ h))), (λ s. absurd (not_both s n)))
  tells_some t a b (suc j) n = ((λ _. some j n), (λ _. b j))

  pub tells_none : (t : ℕ → Bool) → t 0 ≡ true → ((j : ℕ) → t (suc j) ≡ false) → (j : ℕ) → MayName r es i j → (t j ≡ true) ↔ NoneEligible r es i
  tells_none t a b zero n = ((λ _. n), (λ _. a))
  tells_none t a b (suc j) n = ((λ h. absurd (false≢true (sym (b j) ∙ h))), (λ m. absurd (not_both (some j n) m)))

  pub judged : activation_at r es i ≡ true → Judged r es i
  unfolding decided
  judged act =
      record {
        fulfilled = λ a b. rw (with_polarity (omega arith) (positive r.code a b)) (tells_some (λ j. is_fulfilled (decided Positive j)) refl (λ j. refl) (target r es i) (named r es i).may);
        violated = λ a b. rw (with_polarity (omega arith) (positive r.code a b)) (tells_none (λ j. is_violated (decided Positive j)) refl (λ j. refl) (target r es i) (named r es i).may);
        negative_violated = λ a b. rw (with_polarity b (negative r.code a b)) (tells_some (λ j. is_violated (decided Negative j)) refl (λ j. refl) (target r es i) (named r es i).may);
        negative_fulfilled = λ a b. rw (with_polarity b (negative r.code a b)) (tells_none (λ j. is_fulfilled (decided Negative j)) refl (λ j. refl) (target r es i) (named r es i).may);
        names = rw (verdict_is r es i act, target_in_lem r es i) (named r es i);
      }
    where
      with_polarity : r.code ≤ 12 → {p : Polarity} → polarity_of r ≡ p → verdict r es i ≡ decided p (target r es i)
      with_polarity few q =
          verdict_is r es i act ∙ decision_event r es i (active_event r es i act few) ∙ ap (λ (p : Polarity). decided p (target r es i)) q

  -- ---- whichever is named

  -- there is one, or there is none; that is all that a decision depends on
  same_found : (j k : ℕ) → MayName r es i j → MayName r es i k → (eqb j 0 ≡ eqb k 0) × ((n : Polarity) → unnamed (decided n j) ≡ unnamed (decided n k))
  unfolding decided
  same_found zero zero a b = (refl, λ n. refl)
  same_found zero (suc k) a b = absurd (not_both (some k b) a)
  same_found (suc j) zero a b = absurd (not_both (some j a) b)
  same_found (suc j) (suc k) a b = (ne_eqb (suc j) 0 (omega arith) ∙ sym (ne_eqb (suc k) 0 (omega arith)), alike)
    where
      alike : (n : Polarity) → unnamed (decided n (suc j)) ≡ unnamed (decided n (suc k))
      alike Positive = refl
      alike Negative = refl

  unmoved : (h j : ℕ) → 1 ≤ i → MayName r es i j → Unmoved r es h i j
  unfolding verdict standing
  unmoved h j low m =
      record {
        finished = rw (decision_event r es i low) (finished (activation_at r es i));
        running = rw (decision_event r es i low, undecided_event r es i low h) (running (activation_at r es i));
      }
    where
      found : eqb (target r es i) 0 ≡ eqb j 0
      found = (same_found (target r es i) j (named r es i).may m).0

      same : unnamed (decided (polarity_of r) (target r es i)) ≡ unnamed (decided (polarity_of r) j)
      same = (same_found (target r es i) j (named r es i).may m).1 (polarity_of r)

      finished : (a : Bool) → unnamed (cond a (decided (polarity_of r) (target r es i)) Idle) ≡ unnamed (cond a (decided (polarity_of r) j) Idle)
      finished true = same
      finished false = refl

      open_too : (o : Bool) → unnamed (cond o Open (decided (polarity_of r) (target r es i))) ≡ unnamed (cond o Open (decided (polarity_of r) j))
      open_too true = refl
      open_too false = same

      running : (a : Bool) → unnamed (cond a (cond (eqb (target r es i) 0 && can_come r es h i) Open (decided (polarity_of r) (target r es i))) Idle) ≡ unnamed (cond a (cond (eqb j 0 && can_come r es h i) Open (decided (polarity_of r) j)) Idle)
      running true = rw found (open_too (eqb j 0 && can_come r es h i))
      running false = refl

-- ---- continuations

-- not before the later of two times is before neither
later_of : (s t : ℕ) (added : List Event) → non_falling_from (max s t) added ≡ (non_falling_from s added && non_falling_from t added)
unfolding non_falling_from
later_of s t [] = refl
later_of s t (e ∷ added) = go (leb s e.time) refl (leb t e.time) refl (non_falling_from e.time added)
  where
    go : (a : Bool) → leb s e.time ≡ a → (b : Bool) → leb t e.time ≡ b → (n : Bool) → (leb (max s t) e.time && n) ≡ ((a && n) && (b && n))
    go true p true q n = rw (le-leb (max s t) e.time (omega (arith, leb-true s e.time p, leb-true t e.time q))) (sym (twice n))
      where
        twice : (n : Bool) → (n && n) ≡ n
        twice true = refl
        twice false = refl
    go true p false q n = rw (lt-leb (max s t) e.time (omega (arith, leb-false t e.time q))) (sym (and-false n))
    go false p b q n = rw (lt-leb (max s t) e.time (omega (arith, leb-false s e.time p))) refl

continued : (c : Course) (added : List Event) → non_falling c.events ≡ true → continuation (horizon c) added ≡ (non_falling (c.events ++ added) && non_falling_from c.clock added && all well_formed added)
unfolding continuation horizon non_falling last_time
continued c added falls =
    let parts : non_falling_from 0 (c.events ++ added) ≡ non_falling_from (last_from 0 c.events) added =
    non_falling_parts 0 c.events added ∙ ap (λ (t : Bool). t && non_falling_from (last_from 0 c.events) added) falls in
    ap (λ (t : Bool). t && all well_formed added)
    (later_of (last_from 0 c.events) c.clock added ∙ ap (λ (t : Bool). t && non_falling_from c.clock added) (sym parts))

satisfied : (ts : List Test) → all (λ t. is_reading t.reading) ts ≡ true → (satisfiable ts ≡ true) ↔ Satisfiable ts
satisfied ts named = (
  (λ can. (bringing ts 0 1, bringing_in_range ts can 0 1, complete ts can 0 1 named)),
  (λ s. sound ts s.0 s.1 s.2),
)

pub words : Words
words =
    record {
      times = times;
      suited = suited;
      twelve = twelve;
      named = λ r es i j. (only_named r es i j, λ e. rw e (named r es i));
      unmoved = λ r es h i j. unmoved r es i h j;
      four = four;
      judged = judged;
      continued = continued;
      satisfied = satisfied;
    }
