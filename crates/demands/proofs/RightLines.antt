-- The lines of a run that was read are the right ones, because its standings are the verdicts.
use mathlib.Core.Path.{◌≡◌, refl, sym, ap, subst, ◌∙◌}
use mathlib.Core.Logic.{◌⊎◌, inl, inr}
use mathlib.Core.Bool.{true, false, not, true≢false}
use mathlib.Core.List.{List, [], ◌∷◌}
use Prim.Native.Nat.{ℕ, suc, ◌≤◌}
use native.Mathlib.Omega.{arith}
use lib.ListN.{length}
use Rattle.declare.specs.declared.Event.{Event}
use Rattle.declare.specs.declared.Rule.{Rule}
use Rattle.declare.specs.declared.Table.{Table}
use Rattle.declare.specs.declared.Standing.{Standing}
use Rattle.declare.specs.declared.Standing.TheVariants.{Idle, Open, Fulfilled, Violated}
use Rattle.declare.specs.Lists.{count_below}
use Rattle.declare.specs.Rules.{rule_at}
use Rattle.declare.specs.Standings.{is_idle, is_open}
use Rattle.declare.specs.Suits.{activation_at}
use Rattle.declare.specs.Verdicts.{verdict}
use Rattle.declare.proofs.Exactness.{verdict_is, decision_shut, verdict_active}
use Rattle.standings.specs.declared.totals.Totals.{Totals}
use Rattle.standings.specs.Totals.{totals_by}
use Rattle.standings.proofs.Counts.{totals_same, totals_activations}
use Rattle.run.specs.declared.Run.{Run}
use Rattle.run.specs.Records.{standing_at, totals_in, valid_run}
use Rattle.run.specs.Words.{Finishes}
use Rattle.run.proofs.Bounds.{valid_parts}
use Rattle.run.proofs.Answered.{position_within, position_active}
use Rattle.printing.specs.Lines.{PrintedLine, activation_line, total_line, refused_line}
use Rattle.printing.specs.Report.{position_lines, total_of}
use Rattle.demands.specs.Printed.{Tells, VerdictLine, TotalLine}
use Rattle.demands.proofs.Places.{same_first}
use Rattle.demands.proofs.Reports.{PositionLine, RunLine}

-- a verdict is never open
verdict_closed : (r : Rule) (es : List Event) (i : ℕ) → verdict r es i ≡ Open → ⊥
verdict_closed r es i e =
    let act = sym (verdict_active r es i) ∙ ap (λ (s : Standing). not (is_idle s)) e in
    true≢false (sym (ap is_open e) ∙ ap is_open (verdict_is r es i act) ∙ decision_shut r es i)

module _ (t : Table) (es : List Event) where
  abbrev pub RightOf : PrintedLine → Type 0
  RightOf (activation_line k i letter j) = VerdictLine t es k i letter j
  RightOf (total_line k a f v) = TotalLine t es k a f v
  RightOf (refused_line word n line) = ⊥

  module _ (r : Run) (fin : Finishes t es r) (valid : valid_run r ≡ true) where
    verdict_at : (k i : ℕ) → 1 ≤ k → k ≤ r.table.count → i ≤ r.count → standing_at r k i ≡ verdict (rule_at t k) es i
    verdict_at k i a b d =
        let p = valid_parts r valid in
        fin.verdicts k i ((a, omega (arith, p.rules_fit), omega (arith, p.events_fit)), b, d)

    rules_count : r.table.count ≡ t.count
    rules_count = ap (λ (u : Table). u.count) fin.table

    totals_are : (k : ℕ) → 1 ≤ k → k ≤ r.table.count → totals_in r k ≡ totals_by (verdict (rule_at t k) es) (length es)
    totals_are k a b =
        totals_same (standing_at r k) (verdict (rule_at t k) es) r.count (λ i d. verdict_at k i a b d)
        ∙ ap (totals_by (verdict (rule_at t k) es)) fin.count

    activations_are : (k : ℕ) → (totals_by (verdict (rule_at t k) es) (length es)).activations ≡ count_below (activation_at (rule_at t k) es) (suc (length es))
    activations_are k =
        totals_activations (verdict (rule_at t k) es) (activation_at (rule_at t k) es) (length es) (verdict_active (rule_at t k) es)

    -- a verdict stands at an activation, and so at a position of the cycle
    verdict_line : (k i letter j : ℕ) → 1 ≤ k → k ≤ r.table.count → i ≤ r.count → Tells letter j (verdict (rule_at t k) es i) → is_idle (verdict (rule_at t k) es i) ≡ false → VerdictLine t es k i letter j
    verdict_line k i letter j a b d tells n =
        let m = rules_count in
        let c = fin.count in
        let within : k ≤ t.count = omega arith in
        let act : activation_at (rule_at t k) es i ≡ true = sym (verdict_active (rule_at t k) es i) ∙ ap not n in
        record {
          place = record { rule_low = a; rule_high = within; position = position_active t es k i within (omega arith) act };
          activation = act;
          tells = tells;
        }

    -- what is printed is right
    position_right : (k i : ℕ) → 1 ≤ k → k ≤ r.table.count → i ≤ r.count → (s : Standing) → verdict (rule_at t k) es i ≡ s → (l : PrintedLine) → position_lines k i s ≡ l ∷ [] → RightOf l
    unfolding position_lines
    position_right k i a b d Idle e l h = absurd (let z : ◌≡◌ {A = ℕ} 0 1 = cc in omega arith)
    position_right k i a b d Open e l h = absurd (verdict_closed (rule_at t k) es i e)
    position_right k i a b d (Fulfilled j) e l h = subst RightOf (same_first h) (verdict_line k i _ j a b d (inl (refl, e)) (ap is_idle e))
    position_right k i a b d (Violated j) e l h = subst RightOf (same_first h) (verdict_line k i _ j a b d (inr (refl, e)) (ap is_idle e))

    total_right : (k : ℕ) → 1 ≤ k → k ≤ r.table.count → RightOf (total_of k (totals_in r k))
    unfolding total_of totals_by
    total_right k a b =
        let e = totals_are k a b in
        record {
          low = a;
          high = (let m = rules_count in omega arith);
          activations = ap (λ (x : Totals). x.activations) e ∙ activations_are k;
          fulfilled = ap (λ (x : Totals). x.fulfilled) e;
          violated = ap (λ (x : Totals). x.violated) e;
        }

    pub run_right : (l : PrintedLine) → RunLine r l → RightOf l
    run_right l w = go w.line
      where
        go : PositionLine r w.rule l ⊎ (total_of w.rule (totals_in r w.rule) ≡ l) → RightOf l
        go (inl p) =
            let e = verdict_at w.rule p.position w.low w.high p.high in
            position_right w.rule p.position w.low w.high p.high _ (sym e) l p.line
        go (inr e) = subst RightOf e (total_right w.rule w.low w.high)

    -- what is right is printed
    told : (k i letter j : ℕ) (s : Standing) → Tells letter j s → position_lines k i s ≡ activation_line k i letter j ∷ []
    unfolding position_lines
    told k i letter j s (inl (a, b)) = rw (a, b)
    told k i letter j s (inr (a, b)) = rw (a, b)

    pub right_run : (l : PrintedLine) → RightOf l → RunLine r l
    unfolding total_of totals_by
    right_run (activation_line k i letter j) v =
        let m = rules_count in
        let n = fin.count in
        let w = v.place in
        let b : k ≤ r.table.count = omega (arith, w.rule_high) in
        let d : i ≤ r.count = omega (arith, position_within t (length es) k i w.position) in
        let e = verdict_at k i w.rule_low b d in
        record {
          rule = k;
          low = w.rule_low;
          high = b;
          line = inl (record { position = i; high = d; line = ap (position_lines k i) e ∙ told k i letter j _ v.tells });
        }
    right_run (total_line k a f v) w =
        let m = rules_count in
        let b : k ≤ r.table.count = omega (arith, w.high) in
        let e = totals_are k w.low b in
        record {
          rule = k;
          low = w.low;
          high = b;
          line = inr (ap (total_of k) e ∙ rw (activations_are k, w.activations, w.fulfilled, w.violated));
        }
    right_run (refused_line word n line) v = absurd v
