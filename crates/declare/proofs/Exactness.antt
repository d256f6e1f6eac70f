-- Early verdicts are exact.
--
-- An activation that has an eligible event keeps it, and one to which none can come stays without:
-- so the verdict, and its target, is the same in every continuation. One that is open has two
-- continuations that differ: none added, and the event that can come. Of the cycle as such the
-- formula is settled, or nothing more can occur; else events that can come turn it.
use mathlib.Core.Path.{◌≡◌, refl, sym, ◌∙◌, ap}
use mathlib.Core.Bool.{Bool, true, false, not, cond, true≢false, false≢true}
use mathlib.Core.List.{List, [], ◌∷◌, ◌++◌, append-nil}
use Prim.Native.Nat.{ℕ, zero, suc, ◌≤◌, ◌<◌}
use native.Mathlib.Omega.{arith}
use borrow.Author.Tests.{eqb-true}
use lib.Dec.{eqb}
use lib.ListN.{length}
use Rattle.declare.specs.Types.{Event, Rule, Polarity, Positive, Negative, Standing, Idle, Open, Fulfilled, Violated}
use Rattle.declare.specs.Lists.{all}
use Rattle.declare.specs.Events.{non_falling_from, non_falling, last_time}
use Rattle.declare.specs.Overall.{is_overall}
use Rattle.declare.specs.Rules.{valid_rule}
use Rattle.declare.specs.Suits.{activation_at}
use Rattle.declare.specs.Templates.{polarity_of}
use Rattle.declare.specs.Verdicts.{eligible, target, decided, formula_of, fulfilled_if, decision, verdict}
use Rattle.declare.specs.Continuations.{continuation}
use Rattle.declare.specs.Reachability.{can_come, undecided, standing}
use Rattle.declare.specs.Standings.{is_idle, is_open, is_fulfilled, is_violated, is_decided}
use Rattle.declare.specs.Exactness.{InSome, ExactAt, Exactness, IdleElsewhere}
use Rattle.declare.proofs.Booleans.{and₂, fails}
use Rattle.declare.proofs.Zero.{activation_zero, decision_zero, undecided_event, decision_event}
use Rattle.declare.proofs.Targets.{target_stays, target_next, target_cut}
use Rattle.declare.proofs.Extension.{activation_same}
use Rattle.declare.proofs.Carried.{decided_active}
use Rattle.declare.proofs.Arrival.{comes, coming, coming_continues, coming_eligible}
use Rattle.declare.proofs.Settled.{Turned, turning, zero_kept}

pub none_added : (h : ℕ) → continuation h [] ≡ true
unfolding continuation non_falling_from all
none_added h = refl

-- ---- the standing of an activation

pub verdict_is : (r : Rule) (es : List Event) (i : ℕ) → activation_at r es i ≡ true → verdict r es i ≡ decision r es i
unfolding verdict
verdict_is r es i act = rw act

pub standing_is : (r : Rule) (es : List Event) (h i : ℕ) → activation_at r es i ≡ true → standing r es h i ≡ cond (undecided r es h i) Open (decision r es i)
unfolding standing
standing_is r es h i act = rw act

-- a verdict is not both
not_both : (s : Standing) → is_fulfilled s ≡ true → is_violated s ≡ true → ⊥
not_both Idle a b = false≢true a
not_both Open a b = false≢true a
not_both (Fulfilled j) a b = false≢true b
not_both (Violated j) a b = false≢true a

-- a decision is one way or the other
pub decision_decided : (r : Rule) (es : List Event) (i : ℕ) → is_decided (decision r es i) ≡ true
unfolding decision
decision_decided r es i = go (eqb i 0)
  where
    by_formula : (t : Bool) (j : ℕ) → is_decided (fulfilled_if t j) ≡ true
    by_formula true j = refl
    by_formula false j = refl

    by_target : (p : Polarity) (j : ℕ) → is_decided (decided p j) ≡ true
    by_target Positive zero = unfold decided in refl
    by_target Positive (suc j) = unfold decided in refl
    by_target Negative zero = unfold decided in refl
    by_target Negative (suc j) = unfold decided in refl

    go : (z : Bool) → is_decided (cond z (fulfilled_if (formula_of r es) (target r es i)) (decided (polarity_of r) (target r es i))) ≡ true
    go true = by_formula (formula_of r es) (target r es i)
    go false = by_target (polarity_of r) (target r es i)

pub decision_shut : (r : Rule) (es : List Event) (i : ℕ) → is_open (decision r es i) ≡ false
decision_shut r es i = go (decision r es i) (decision_decided r es i)
  where
    go : (s : Standing) → is_decided s ≡ true → is_open s ≡ false
    go Idle d = refl
    go Open d = absurd (false≢true d)
    go (Fulfilled j) d = refl
    go (Violated j) d = refl

-- ---- exact, if an open one differs in two continuations and any other is kept

module _ (r : Rule) (es : List Event) (h i : ℕ) where
  abbrev Two : Type 0
  Two = InSome is_fulfilled r es h i × InSome is_violated r es h i

  exact_open : standing r es h i ≡ Open → Two → ExactAt r es h i
  exact_open e two =
      record {
        fulfilled = ((λ k. absurd (false≢true (rw e at k))), (λ f. absurd (not_both (verdict r (es ++ two.1.0) i) (f two.1.0 two.1.1) two.1.2)));
        violated = ((λ k. absurd (false≢true (rw e at k))), (λ f. absurd (not_both (verdict r (es ++ two.0.0) i) two.0.2 (f two.0.0 two.0.1))));
        undecided = ((λ _. two), (λ _. e));
        kept = λ n. absurd (n e);
      }

  exact_kept : is_open (standing r es h i) ≡ false → ((added : List Event) → continuation h added ≡ true → verdict r (es ++ added) i ≡ standing r es h i) → ExactAt r es h i
  exact_kept n kept =
      record {
        fulfilled = ((λ k added more. rw (kept added more) k), (λ f. rw (kept [] (none_added h)) at (f [] (none_added h))));
        violated = ((λ k added more. rw (kept added more) k), (λ f. rw (kept [] (none_added h)) at (f [] (none_added h))));
        undecided = (
          (λ k. absurd (true≢false (sym (ap is_open k) ∙ n))),
          (λ t. absurd (not_both (standing r es h i) (rw (kept t.0.0 t.0.1) at t.0.2) (rw (kept t.1.0 t.1.1) at t.1.2))),
        );
        kept = λ _ added more. kept added more;
      }

-- ---- of a decided activation, the decision is kept

module _ (r : Rule) (valid : valid_rule r ≡ true) (es : List Event) (h : ℕ) (falls : non_falling es ≡ true) (past : last_time es ≤ h) (added : List Event) (more : continuation h added ≡ true) where
  -- at an event the target is
  pub target_kept : (i : ℕ) → 1 ≤ i → i ≤ length es → undecided r es h i ≡ false → target r (es ++ added) i ≡ target r es i
  target_kept i low high o = go (target r es i) refl
    where
      none : can_come r es h i ≡ false → (k : ℕ) → length es < k → k ≤ length (es ++ added) → eligible r (es ++ added) i k ≡ false
      none f k a b = fails (eligible r (es ++ added) i k) (comes r es added h i k falls past low high a b more) f

      go : (j : ℕ) → target r es i ≡ j → target r (es ++ added) i ≡ target r es i
      go zero e = target_cut r es i high added (none (rw e at (sym (undecided_event r es i low h) ∙ o)))
      go (suc j) e = target_stays r es i high added j e ∙ sym e

  pub decision_kept : (i : ℕ) → i ≤ length es → undecided r es h i ≡ false → decision r (es ++ added) i ≡ decision r es i
  decision_kept zero high o = zero_kept r valid es h falls past added more o
  decision_kept (suc i) high o =
      decision_event r (es ++ added) (suc i) (omega arith)
      ∙ ap (decided (polarity_of r)) (target_kept (suc i) (omega arith) high o)
      ∙ sym (decision_event r es (suc i) (omega arith))

-- ---- of an undecided one, two continuations differ

module _ (r : Rule) (valid : valid_rule r ≡ true) (es : List Event) (h : ℕ) where
  -- at an event: none added, and the event that can come
  module _ (i : ℕ) (low : 1 ≤ i) (high : i ≤ length es) (act : activation_at r es i ≡ true) (o : undecided r es h i ≡ true) where
    o_parts : (eqb (target r es i) 0 ≡ true) × (can_come r es h i ≡ true)
    o_parts = and₂ (sym (undecided_event r es i low h) ∙ o)

    none : target r es i ≡ 0
    none = eqb-true (target r es i) 0 o_parts.0

    added : List Event
    added = coming r es h i ∷ []

    verdict_later : (l : List Event) → verdict r (es ++ l) i ≡ decided (polarity_of r) (target r (es ++ l) i)
    verdict_later l = verdict_is r (es ++ l) i (activation_same r es l i high ∙ act) ∙ decision_event r (es ++ l) i low

    without : verdict r (es ++ []) i ≡ decided (polarity_of r) 0
    without = verdict_later [] ∙ ap (decided (polarity_of r)) (rw append-nil none)

    with_coming : verdict r (es ++ added) i ≡ decided (polarity_of r) (suc (length es))
    unfolding added
    with_coming =
        verdict_later added
        ∙ ap (decided (polarity_of r)) (target_next r es i high (coming r es h i) none (coming_eligible r es h i valid o_parts.1 low high))

    two_event : Two r es h i
    unfolding added
    two_event = go (polarity_of r) without with_coming
      where
        go : (p : Polarity) → verdict r (es ++ []) i ≡ decided p 0 → verdict r (es ++ added) i ≡ decided p (suc (length es)) → Two r es h i
        go Positive a b =
            unfold decided in ((added, coming_continues r es h i valid o_parts.1, ap is_fulfilled b), ([], none_added h, ap is_violated a))
        go Negative a b =
            unfold decided in (([], none_added h, ap is_fulfilled a), (added, coming_continues r es h i valid o_parts.1, ap is_violated b))

  -- at position 0: none added, and events that turn the formula
  module _ (act : activation_at r es 0 ≡ true) (o : undecided r es h 0 ≡ true) where
    overall : is_overall r.code ≡ true
    overall = sym (activation_zero r es) ∙ act

    turn : Turned r es h
    turn = turning r valid overall es h o

    as_formula : (l : List Event) (t : Bool) → formula_of r (es ++ l) ≡ t → (is_fulfilled (verdict r (es ++ l) 0) ≡ t) × (is_violated (verdict r (es ++ l) 0) ≡ not t)
    as_formula l t e =
        rw (verdict_is r (es ++ l) 0 (activation_zero r (es ++ l) ∙ overall), decision_zero r (es ++ l), e) (go t)
      where
        go : (t : Bool) → (is_fulfilled (fulfilled_if t (target r (es ++ l) 0)) ≡ t) × (is_violated (fulfilled_if t (target r (es ++ l) 0)) ≡ not t)
        go true = (refl, refl)
        go false = (refl, refl)

    two_zero : Two r es h 0
    two_zero = go (formula_of r es) refl
      where
        go : (t : Bool) → formula_of r es ≡ t → Two r es h 0
        go true q =
            (([], none_added h, (as_formula [] true (rw append-nil q)).0), (turn.added, turn.continues, (as_formula turn.added false (turn.turns ∙ ap not q)).1))
        go false q =
            ((turn.added, turn.continues, (as_formula turn.added true (turn.turns ∙ ap not q)).0), ([], none_added h, (as_formula [] false (rw append-nil q)).1))

  two : (i : ℕ) → i ≤ length es → activation_at r es i ≡ true → undecided r es h i ≡ true → Two r es h i
  two zero high act o = two_zero act o
  two (suc i) high act o = two_event (suc i) (omega arith) high act o

pub exactness : Exactness
exactness r es h i valid well falls past high act = go (undecided r es h i) refl
  where
    stands : {o : Bool} → undecided r es h i ≡ o → standing r es h i ≡ cond o Open (decision r es i)
    stands q = standing_is r es h i act ∙ ap (λ (t : Bool). cond t Open (decision r es i)) q

    go : (o : Bool) → undecided r es h i ≡ o → ExactAt r es h i
    go true q = exact_open r es h i (stands q) (two r valid es h i high act q)
    go false q =
        exact_kept r es h i (ap is_open (stands q) ∙ decision_shut r es i)
        (λ added more.
        verdict_is r (es ++ added) i (activation_same r es added i high ∙ act) ∙ decision_kept r valid es h falls past added more i high q ∙ sym (stands q))

-- ---- what is not idle is an activation

module _ (r : Rule) (es : List Event) (i : ℕ) where
  pub verdict_active : not (is_idle (verdict r es i)) ≡ activation_at r es i
  unfolding verdict
  verdict_active = go (activation_at r es i)
    where
      go : (a : Bool) → not (is_idle (cond a (decision r es i) Idle)) ≡ a
      go true = ap not (decided_active (decision r es i) (decision_decided r es i))
      go false = refl

  pub standing_active : (h : ℕ) → not (is_idle (standing r es h i)) ≡ activation_at r es i
  unfolding standing
  standing_active h = go (activation_at r es i) (undecided r es h i)
    where
      go : (a o : Bool) → not (is_idle (cond a (cond o Open (decision r es i)) Idle)) ≡ a
      go false o = refl
      go true true = refl
      go true false = ap not (decided_active (decision r es i) (decision_decided r es i))

-- ---- idle

pub idle_elsewhere : IdleElsewhere
unfolding standing
idle_elsewhere r es h i = ((λ e. sym (standing_active r es i h) ∙ ap (λ (s : Standing). not (is_idle s)) e), (λ n. rw n))
