-- The formula of a rule about the cycle as such. Settled, it stays; nor does it change where nothing
-- more can occur. Else an occurrence turns it.
use mathlib.Core.Path.{◌≡◌, refl, sym, ◌∙◌, ap, ap₂}
use mathlib.Core.Bool.{Bool, true, false, not, ◌&&◌, ◌||◌, and-false, true≢false, false≢true}
use mathlib.Core.List.{List, ◌++◌, append_assoc}
use Prim.Native.Nat.{ℕ, zero, suc, ◌≤◌, ◌<◌, zero-le}
use native.Mathlib.Omega.{arith}
use borrow.Author.Tests.{eqb-true, eq-eqb, not-true}
use lib.Dec.{eqb}
use lib.ListN.{length, length-append}
use Rattle.declare.specs.Types.{Event, Rule, Overall, Existence, Absence, Choice, ExclusiveChoice}
use Rattle.declare.specs.Events.{is_activity, non_falling, last_time}
use Rattle.declare.specs.Overall.{is_overall, overall_of, counts_target, formula, settled}
use Rattle.declare.specs.Rules.{fits_template, valid_rule}
use Rattle.declare.specs.Verdicts.{occurs_at, fits_at, eligible, target, seen, formula_of, fulfilled_if, decision}
use Rattle.declare.specs.Continuations.{continuation}
use Rattle.declare.specs.Reachability.{can_occur, is_settled, undecided}
use Rattle.declare.specs.Words.{NoneEligible, MayName}
use Rattle.declare.proofs.Booleans.{and_left, and_right, and₂, both, or_left, or_right, neither, fails}
use Rattle.declare.proofs.Zero.{eligible_zero, decision_zero, undecided_zero}
use Rattle.declare.proofs.Targets.{named, target_stays, target_cut}
use Rattle.declare.proofs.Arrival.{rule_parts}
use Rattle.declare.proofs.Occurrences.{seen_stays, seen_cut, seen_none, shows, coming, continues, occurs_last, long, seen_coming, others_same}

-- ---- the formula by what is seen

-- no further occurrence changes a settled one
settled_stays : (o : Overall) (a b c d : Bool) → (a ≡ true → c ≡ true) → (b ≡ true → d ≡ true) → settled o a b ≡ true → formula o c d ≡ formula o a b
settled_stays Existence a b c d f g s = f s ∙ sym s
settled_stays Absence a b c d f g s = ap not (f s ∙ sym s)
settled_stays Choice true b c d f g s = rw (f refl) refl
settled_stays Choice false true c d f g s = or_right c (g refl)
settled_stays Choice false false c d f g s = absurd (false≢true s)
settled_stays ExclusiveChoice true true c d f g s = rw (f refl, g refl) refl
settled_stays ExclusiveChoice true false c d f g s = absurd (false≢true s)
settled_stays ExclusiveChoice false b c d f g s = absurd (false≢true s)

settled_more : (o : Overall) (a b c d : Bool) → (a ≡ true → c ≡ true) → (b ≡ true → d ≡ true) → settled o a b ≡ true → settled o c d ≡ true
settled_more Existence a b c d f g s = f s
settled_more Absence a b c d f g s = f s
settled_more Choice true b c d f g s = or_left d (f refl)
settled_more Choice false true c d f g s = or_right c (g refl)
settled_more Choice false false c d f g s = absurd (false≢true s)
settled_more ExclusiveChoice a b c d f g s = both (f (and_left a b s)) (g (and_right a b s))

-- the target activity is the one to come: under 16, where that of the activation was seen
abbrev wanted : Overall → Bool → Bool
wanted Existence a = false
wanted Absence a = false
wanted Choice a = false
wanted ExclusiveChoice a = a

-- an occurrence of the one to come turns a formula that is not settled
turned : (o : Overall) (a b : Bool) → settled o a b ≡ false → wanted o a ≡ false → formula o true b ≡ not (formula o a b)
turned Existence true b s w = absurd (true≢false s)
turned Existence false b s w = refl
turned Absence true b s w = absurd (true≢false s)
turned Absence false b s w = refl
turned Choice true b s w = absurd (true≢false s)
turned Choice false true s w = absurd (true≢false s)
turned Choice false false s w = refl
turned ExclusiveChoice true b s w = absurd (true≢false w)
turned ExclusiveChoice false true s w = refl
turned ExclusiveChoice false false s w = refl

turned_target : (o : Overall) (a b : Bool) → settled o a b ≡ false → wanted o a ≡ true → (formula o a true ≡ not (formula o a b)) × (counts_target o ≡ true)
turned_target Existence a b s w = absurd (false≢true w)
turned_target Absence a b s w = absurd (false≢true w)
turned_target Choice a b s w = absurd (false≢true w)
turned_target ExclusiveChoice true true s w = absurd (true≢false s)
turned_target ExclusiveChoice true false s w = (refl, refl)
turned_target ExclusiveChoice false b s w = absurd (false≢true w)

-- under 13 and 14 the target activity is not looked at
unread : (o : Overall) (a b c : Bool) → counts_target o ≡ false → formula o a b ≡ formula o a c
unread Existence a b c n = refl
unread Absence a b c n = refl
unread Choice a b c n = absurd (true≢false n)
unread ExclusiveChoice a b c n = absurd (true≢false n)

-- settled: something was seen that counts
settled_seen : (o : Overall) (a b : Bool) → settled o a b ≡ true → (a || (counts_target o && b)) ≡ true
settled_seen Existence a b s = or_left (false && b) s
settled_seen Absence a b s = or_left (false && b) s
settled_seen Choice a b s = s
settled_seen ExclusiveChoice a b s = or_left (true && b) (and_left a b s)

module _ (r : Rule) where
  abbrev kind : Overall
  kind = overall_of r.code

  -- where no event is eligible, nothing is seen that counts
  none_seen : (es : List Event) → NoneEligible r es 0 → (seen r es r.activation || (counts_target kind && seen r es r.target)) ≡ false
  unfolding fits_at
  none_seen es none =
      rw (seen_none r es r.activation (λ j a b. (parts j a b).0)) (counted (counts_target kind) (λ j a b. (parts j a b).1))
    where
      parts : (j : ℕ) → 1 ≤ j → j ≤ length es → (occurs_at r es r.activation j ≡ false) × ((counts_target kind && occurs_at r es r.target j) ≡ false)
      parts j a b = neither (occurs_at r es r.activation j) (counts_target kind && occurs_at r es r.target j) (sym (eligible_zero r es j) ∙ none j a b)

      counted : (t : Bool) → ((j : ℕ) → 1 ≤ j → j ≤ length es → (t && occurs_at r es r.target j) ≡ false) → (t && seen r es r.target) ≡ false
      counted true g = seen_none r es r.target g
      counted false g = refl

  -- ---- decided: kept in every continuation

  module _ (valid : valid_rule r ≡ true) (es : List Event) (h : ℕ) (falls : non_falling es ≡ true) (past : last_time es ≤ h) (added : List Event) (more : continuation h added ≡ true) where
    kept_settled : is_settled r es ≡ true → decision r (es ++ added) 0 ≡ decision r es 0
    unfolding is_settled formula_of
    kept_settled s =
        decision_zero r (es ++ added)
        ∙ ap₂ fulfilled_if (settled_stays kind _ _ _ _ (seen_stays r es added r.activation) (seen_stays r es added r.target) s) (go (target r es 0) refl (named r es 0).may)
        ∙ sym (decision_zero r es)
      where
        go : (j : ℕ) → target r es 0 ≡ j → MayName r es 0 j → target r (es ++ added) 0 ≡ target r es 0
        go zero e m = absurd (true≢false (sym (settled_seen kind (seen r es r.activation) (seen r es r.target) s) ∙ none_seen es m))
        go (suc j) e m = target_stays r es 0 zero-le added j e ∙ sym e

    kept_past : can_occur r es h ≡ false → decision r (es ++ added) 0 ≡ decision r es 0
    unfolding formula_of
    kept_past n =
        decision_zero r (es ++ added)
        ∙ ap₂ fulfilled_if (ap₂ (formula kind) (seen_cut r es added r.activation (none r.activation)) (seen_cut r es added r.target (none r.target))) (target_cut r es 0 zero-le added unfit)
        ∙ sym (decision_zero r es)
      where
        none : (k j : ℕ) → length es < j → j ≤ length (es ++ added) → occurs_at r (es ++ added) k j ≡ false
        none k j a b = fails (occurs_at r (es ++ added) k j) (shows r h valid es added k j falls past a b more) n

        unfit : (j : ℕ) → length es < j → j ≤ length (es ++ added) → eligible r (es ++ added) 0 j ≡ false
        unfit j a b =
            eligible_zero r (es ++ added) j
            ∙ unfold fits_at in rw (none r.activation j a b, none r.target j a b) (and-false (counts_target kind))

    pub zero_kept : undecided r es h 0 ≡ false → decision r (es ++ added) 0 ≡ decision r es 0
    zero_kept o = go (is_settled r es) refl (can_occur r es h) refl (sym (undecided_zero r es h) ∙ o)
      where
        go : (s : Bool) → is_settled r es ≡ s → (c : Bool) → can_occur r es h ≡ c → (not s && c) ≡ false → decision r (es ++ added) 0 ≡ decision r es 0
        go true q c p o = kept_settled q
        go false q true p o = absurd (true≢false o)
        go false q false p o = kept_past p

    -- what may occur after more events could occur before them; `later` is no earlier than these
    module _ (later : ℕ) (further : (l : List Event) → continuation later l ≡ true → continuation h (added ++ l) ≡ true) where
      could_occur : can_occur r (es ++ added) later ≡ true → can_occur r es h ≡ true
      could_occur c =
          let k : ℕ = r.activation in
          let active : is_activity k ≡ true = (rule_parts r valid).activation in
          let next : List Event = coming r valid (es ++ added) later k active c in
          let e : occurs_at r (es ++ (added ++ next)) k (suc (suc (length (es ++ added)))) ≡ true =
          rw append_assoc at (occurs_last r valid (es ++ added) later k active c) in
          let l : length (es ++ (added ++ next)) ≡ suc (suc (length (es ++ added))) = rw append_assoc at (long r valid (es ++ added) later k active c) in
          shows r h valid es (added ++ next) k (suc (suc (length (es ++ added)))) falls past (omega (arith, length-append es added)) (omega (arith, l)) (further next (continues r valid (es ++ added) later k active c)) e

      pub zero_decided : undecided r es h 0 ≡ false → undecided r (es ++ added) later 0 ≡ false
      unfolding is_settled
      zero_decided o =
          undecided_zero r (es ++ added) later
          ∙ fails _ (λ q. let p = and₂ q in both (unsettled (is_settled r es) refl p.0) (could_occur p.1)) (sym (undecided_zero r es h) ∙ o)
        where
          unsettled : (s : Bool) → is_settled r es ≡ s → not (is_settled r (es ++ added)) ≡ true → not s ≡ true
          unsettled true q n =
              absurd (false≢true (rw (settled_more kind _ _ _ _ (seen_stays r es added r.activation) (seen_stays r es added r.target) q) at n))
          unsettled false q n = refl

  -- ---- undecided: a continuation in which the formula is turned

  pub record Turned (es : List Event) (h : ℕ) : Type 0 where
    pub added : List Event
    pub continues : continuation h added ≡ true
    pub turns : formula_of r (es ++ added) ≡ not (formula_of r es)

  module _ (valid : valid_rule r ≡ true) (overall : is_overall r.code ≡ true) (es : List Event) (h : ℕ) (o : undecided r es h 0 ≡ true) where
    parts : (not (is_settled r es) ≡ true) × (can_occur r es h ≡ true)
    parts = and₂ (sym (undecided_zero r es h) ∙ o)

    unsettled : settled kind (seen r es r.activation) (seen r es r.target) ≡ false
    unfolding is_settled
    unsettled = not-true _ parts.0

    -- under 15 and 16 the activities differ
    apart : counts_target kind ≡ true → eqb r.activation r.target ≡ false
    unfolding fits_template
    apart counts = go (and_right (eqb r.correlation.count 0) (not (counts_target kind && eqb r.activation r.target)) (rw overall at (rule_parts r valid).fits))
      where
        go : not (counts_target kind && eqb r.activation r.target) ≡ true → eqb r.activation r.target ≡ false
        go n = not-true _ (rw counts at n)

    by_activation_lem : wanted kind (seen r es r.activation) ≡ false → Turned es h
    by_activation_lem w =
        record {
          added = new;
          continues = continues r valid es h k active parts.1;
          turns = unfold formula_of in (ap (λ (a : Bool). formula kind a (seen r (es ++ new) r.target)) (seen_coming r valid es h k active parts.1) ∙ target_same (counts_target kind) refl ∙ turned kind _ _ unsettled w);
        }
      where
        k : ℕ
        k = r.activation

        active : is_activity r.activation ≡ true
        active = (rule_parts r valid).activation

        new : List Event
        new = coming r valid es h r.activation active parts.1

        target_same : (t : Bool) → counts_target kind ≡ t → formula kind true (seen r (es ++ new) r.target) ≡ formula kind true (seen r es r.target)
        target_same true q = ap (formula kind true) (others_same r valid es h r.activation active parts.1 r.target (apart q))
        target_same false q = unread kind true _ _ q

    by_target : wanted kind (seen r es r.activation) ≡ true → Turned es h
    by_target w =
        record {
          added = coming r valid es h r.target active parts.1;
          continues = continues r valid es h r.target active parts.1;
          turns = unfold formula_of in (ap₂ (formula kind) (others_same r valid es h r.target active parts.1 r.activation (turn (apart t.1))) (seen_coming r valid es h r.target active parts.1) ∙ t.0);
        }
      where
        active : is_activity r.target ≡ true
        active = (rule_parts r valid).target

        t : (formula kind (seen r es r.activation) true ≡ not (formula kind (seen r es r.activation) (seen r es r.target))) × (counts_target kind ≡ true)
        t = turned_target kind (seen r es r.activation) (seen r es r.target) unsettled w

        turn : eqb r.activation r.target ≡ false → eqb r.target r.activation ≡ false
        turn e = fails (eqb r.target r.activation) (λ q. eq-eqb r.activation r.target (sym (eqb-true r.target r.activation q))) e

    pub turning : Turned es h
    turning = go (wanted kind (seen r es r.activation)) refl
      where
        go : (t : Bool) → wanted kind (seen r es r.activation) ≡ t → Turned es h
        go true q = by_target q
        go false q = by_activation_lem q
