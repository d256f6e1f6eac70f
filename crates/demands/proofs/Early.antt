-- Early verdicts in the answers' own words. The exactness of standings covers activations; of any
-- other position every continuation leaves it idle. After a take or a notice on any valid record a
-- standing is carried over or judged from the events now in it.
use mathlib.Core.Path.{◌≡◌, refl, sym, ap, subst, ◌∙◌}
use mathlib.Core.Logic.{◌↔◌}
use mathlib.Core.Bool.{Bool, true, false, not, ◌||◌, true≢false, false≢true}
use mathlib.Core.List.{List, [], ◌++◌, append-nil}
use Prim.Native.Nat.{ℕ, zero, suc, ◌+◌, ◌≤◌, ◌<◌}
use native.Mathlib.Omega.{arith}
use borrow.Author.Tests.{le-leb, leb-true, leb-false, ltb-true}
use lib.Dec.{leb}
use lib.ListN.{length, set, length-set, length-take}
use Rattle.declare.specs.declared.Event.{Event}
use Rattle.declare.specs.declared.Rule.{Rule}
use Rattle.declare.specs.declared.Standing.{Standing}
use Rattle.declare.specs.declared.Standing.TheVariants.{Idle, Open}
use Rattle.declare.specs.Limits.{most_rules, most_events}
use Rattle.declare.specs.Overall.{is_overall}
use Rattle.declare.specs.Rules.{valid_rule, rule_at, is_overall_rule}
use Rattle.declare.specs.Suits.{activation_at}
use Rattle.declare.specs.Standings.{is_idle, is_fulfilled, is_violated, is_decided}
use Rattle.declare.specs.Verdicts.{verdict}
use Rattle.declare.specs.Continuations.{Course, horizon, continuation}
use Rattle.declare.specs.Reachability.{standing}
use Rattle.declare.specs.Answers.{accepted, is_accepted}
use Rattle.declare.specs.Steps.{Cycle, carried, Call, takes, notices, admits}
use Rattle.declare.specs.Exactness.{InEvery, ExactAt}
use Rattle.declare.specs.Words.{Names, target_in}
use Rattle.declare.proofs.Booleans.{and_right, both}
use Rattle.declare.proofs.Extension.{activation_same}
use Rattle.declare.proofs.Exactness.{none_added, exactness, idle_elsewhere, verdict_active}
use Rattle.declare.proofs.Words.{judged}
use Rattle.declare.proofs.Carried.{carried_decided, carried_other, only_idle, decided_active}
use Rattle.declare.proofs.Steps.{take_admitted, last_horizon}
use Rattle.declare.proofs.Tables.{rule_valid}
use Rattle.run.specs.declared.Run.{Run}
use Rattle.run.specs.Records.{events_of, course_of, horizon_of, standing_at, valid_run, Sized}
use Rattle.run.specs.Calls.{entered, judged_run}
use Rattle.run.specs.Queries.{is_position, standing_of}
use Rattle.run.proofs.Guards.{Accepted, accepted_by}
use Rattle.run.proofs.Bounds.{valid_parts}
use Rattle.run.proofs.Places.{judged_standing, valid_here, standings_each}
use Rattle.run.proofs.Answered.{standing_found, standing_is, position_within, valid_cycle}
use Rattle.run.proofs.Validity.{at_idle, here_idle, here_event, onward, onward_sized, accepted_valid}
use Rattle.demands.specs.Demand2.{InCycle}
use Rattle.demands.specs.Demand3.{Early, JudgedFrom, EveryRecord}
use Rattle.demands.proofs.Standings.{stands_as, stands_so, stands_fulfilled, stands_violated}

-- ---- a position that is no activation

module _ (rule : Rule) (es : List Event) (h i : ℕ) (high : i ≤ length es) (none : activation_at rule es i ≡ false) where
  stands_idle : standing rule es h i ≡ Idle
  stands_idle = (idle_elsewhere rule es h i).1 none

  stays_idle : (added : List Event) → verdict rule (es ++ added) i ≡ Idle
  unfolding verdict
  stays_idle added = rw (activation_same rule es added i high, none)

  -- a test that an idle position fails passes in no continuation
  never : (p : Standing → Bool) → p Idle ≡ false → (added : List Event) → p (verdict rule (es ++ added) i) ≡ true → ⊥
  never p f added t = true≢false (sym t ∙ ap p (stays_idle added) ∙ f)

  exact_idle : ExactAt rule es h i
  exact_idle =
      record {
        fulfilled = neither is_fulfilled refl;
        violated = neither is_violated refl;
        undecided = ((λ e. absurd (open_idle (sym e ∙ stands_idle))), (λ s. absurd (never is_fulfilled refl s.0.0 s.0.2)));
        kept = λ n added c. stays_idle added ∙ sym stands_idle;
      }
    where
      open_idle : Open ≡ Idle → ⊥
      open_idle e = false≢true (ap is_idle e)

      neither : (p : Standing → Bool) → p Idle ≡ false → (p (standing rule es h i) ≡ true) ↔ InEvery p rule es h i
      neither p f = ((λ t. absurd (true≢false (sym t ∙ ap p stands_idle ∙ f))), (λ e. absurd (never p f [] (e [] (none_added h)))))

-- ---- any position

exact_at : (rule : Rule) (c : Course) (i : ℕ) → valid_rule rule ≡ true → Cycle c.events → i ≤ length c.events → ExactAt rule c.events (horizon c) i
exact_at rule c i v cycle high = go (activation_at rule c.events i) refl
  where
    go : (a : Bool) → activation_at rule c.events i ≡ a → ExactAt rule c.events (horizon c) i
    go true e = exactness rule c.events (horizon c) i v cycle.formed cycle.order (last_horizon c) high e
    go false e = exact_idle rule c.events (horizon c) i high e

decided_open : (s : Standing) → is_decided s ≡ true → s ≡ Open → ⊥
decided_open s d e = true≢false (sym d ∙ ap is_decided e)

-- a decided verdict is one on an activation
names_nearest : (rule : Rule) (es : List Event) (i : ℕ) (s : Standing) → verdict rule es i ≡ s → is_decided s ≡ true → Names rule es i (target_in s)
names_nearest rule es i s e d =
    subst (λ (u : Standing). Names rule es i (target_in u)) e
    (judged rule es i (sym (verdict_active rule es i) ∙ ap (λ (u : Standing). not (is_idle u)) e ∙ ap not (decided_active s d))).names

pub early_at : (rule : Rule) (c : Course) (r : Run) (k i : ℕ) → valid_rule rule ≡ true → Cycle c.events → i ≤ length c.events → standing_of r k i ≡ accepted (standing rule c.events (horizon c) i) → Early rule c r k i
early_at rule c r k i v cycle high answer =
    record {
      fulfilled = stands_fulfilled r k i now answer _ x.fulfilled;
      violated = stands_violated r k i now answer _ x.violated;
      undecided = stands_so r k i now answer Open _ x.undecided;
      idle = stands_so r k i now answer Idle _ (idle_elsewhere rule c.events (horizon c) i);
      kept = kept;
      names = λ s a d. names_nearest rule c.events i s (rw append-nil at (kept s a d [] (none_added (horizon c)))) d;
    }
  where
    x : ExactAt rule c.events (horizon c) i
    x = exact_at rule c i v cycle high

    now : Standing
    now = standing rule c.events (horizon c) i

    kept : (s : Standing) → standing_of r k i ≡ accepted s → is_decided s ≡ true → (added : List Event) → continuation (horizon c) added ≡ true → verdict rule (c.events ++ added) i ≡ s
    kept s a d added more =
        let e : now ≡ s = stands_as r k i now answer s a in
        x.kept (λ p. decided_open s d (sym e ∙ p)) added more ∙ e

-- ---- after a take or a notice on any valid record

-- past the count every rule is idle
past_idle : (rule : Rule) (over : Bool) (n i : ℕ) (s : Standing) → n < i → valid_here over rule n i s ≡ true → is_idle s ≡ true
past_idle rule over n zero s l h = absurd (omega arith)
past_idle rule over n (suc i) s l h = go (is_overall rule.code) refl
  where
    go : (o : Bool) → is_overall rule.code ≡ o → is_idle s ≡ true
    go true e = here_idle rule over n i s e h
    go false e = at_idle over n (suc i) s l (sym (here_event rule over n i s e) ∙ h)

-- the run r, whose call has entered n events and a kept time
module _ (r : Run) (size : Sized r) (valid : valid_run r ≡ true) (n : ℕ) (events : List Event) (clock : ℕ) (few : n ≤ most_events) (slots : length events ≡ most_events) (valid-next : valid_run (judged_run (onward r n events clock)) ≡ true) where
  abbrev unjudged : Run
  unjudged = onward r n events clock

  abbrev now : Run
  now = judged_run unjudged

  module _ (k i : ℕ) (w : InCycle now.table (events_of now) k i) where
    rule : Rule
    rule = rule_at now.table k

    was : Standing
    was = standing_at r k i

    k_high : k ≤ r.table.count
    unfolding judged_run
    k_high = w.rule_high

    i_high : i ≤ n
    unfolding judged_run events_of
    i_high = omega (arith, position_within r.table _ k i w.position, length-take n events)

    -- a position is one of any events that reach it
    position : (m : ℕ) → i ≤ m → is_position r.table m k i ≡ true
    unfolding judged_run is_position
    position m l = both (le-leb i m l) (and_right (leb i (length (events_of now))) (leb 1 i || is_overall_rule r.table k) w.position)

    placed : i ≤ most_events
    placed = omega (arith, i_high, few)

    -- carried over, or judged from the events now in the record
    stands : standing_of now k i ≡ accepted (carried was (standing rule (events_of now) (horizon_of now) i))
    unfolding judged_run events_of rule was
    stands =
        standing_found now k i valid-next w.rule_low w.rule_high (position n i_high)
        ∙ ap accepted
        (judged_standing unjudged (onward_sized r size n events clock slots) k w.rule_low (omega (arith, k_high, (valid_parts r valid).rules_fit)) i k_high i_high placed)

    -- past the count a valid record has no decided standing
    was_undecided : ((s : Standing) → standing_of r k i ≡ accepted s → is_decided s ≡ false) → is_decided was ≡ false
    unfolding was
    was_undecided h = go (leb i r.count) refl
      where
        go : (b : Bool) → leb i r.count ≡ b → is_decided (standing_at r k i) ≡ false
        go true p = h (standing_at r k i) (standing_found r k i valid w.rule_low k_high (position r.count (leb-true i r.count p)))
        go false p =
            ap is_decided
            (only_idle (standing_at r k i)
            (past_idle (rule_at r.table k) r.closed r.count i (standing_at r k i) (leb-false i r.count p)
            (standings_each r.closed r (valid_parts r valid).standings (valid_parts r valid).overall k i w.rule_low k_high placed)))

    judged_from : JudgedFrom r now k i
    unfolding was rule
    judged_from =
        record {
          carried = λ s a d.
              let q : standing_at r k i ≡ s = standing_is r k i s a in
              stands ∙ ap accepted (carried_decided (standing_at r k i) _ (ap is_decided q ∙ d) ∙ q);
          judged = λ h.
              early_at (rule_at now.table k) (course_of now) now k i (rule_valid now.table rules_sized (valid_parts now valid-next).table k w.rule_low w.rule_high) (valid_cycle now valid-next) (position_within now.table _ k i w.position)
              (stands ∙ ap accepted (carried_other was _ (was_undecided h)));
        }
      where
        rules_sized : length now.table.rules ≡ most_rules
        rules_sized = unfold judged_run in size.rules

judged_from_call : (r : Run) (call : Call) → Sized r → valid_run r ≡ true → is_accepted (admits r.count (horizon_of r) call) ≡ true → valid_run (judged_run (entered r call)) ≡ true → (k i : ℕ) → InCycle (judged_run (entered r call)).table (events_of (judged_run (entered r call))) k i → JudgedFrom r (judged_run (entered r call)) k i
unfolding entered
judged_from_call r (takes e) size valid a valid-next =
    let room : r.count < most_events = ltb-true r.count most_events (take_admitted r.count (horizon_of r) e a).2 in
    judged_from r size valid (r.count + 1) (set r.events r.count e) r.clock (omega arith) (length-set r.events r.count e ∙ size.events) valid-next
judged_from_call r (notices t) size valid a valid-next =
    judged_from r size valid r.count r.events t (valid_parts r valid).events_fit size.events valid-next

pub every_record : EveryRecord
every_record r next call size h =
    let t : Accepted r call next = accepted_by r call next h in
    let v : valid_run (judged_run (entered r call)) ≡ true = accepted_valid r size t.valid call t.running t.admitted in
    subst (λ (n : Run). (k i : ℕ) → InCycle n.table (events_of n) k i → JudgedFrom r n k i) t.next_is (judged_from_call r call size t.valid t.admitted v)
