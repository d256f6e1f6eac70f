-- A rule and its canonical form differ in slots that are not in use, and no definition looks at
-- those: the comparisons are the same, so whatever is asked of events is the same, and with it the
-- verdicts, at position 0 too; and an empty correlation stays empty, so the rule fits its template
-- if it did.
use mathlib.Core.Path.{◌≡◌, refl, sym, ◌∙◌, ap, ap₂, fun_ext}
use mathlib.Core.Bool.{Bool, cond}
use mathlib.Core.List.{List, [], ◌∷◌, map}
use Prim.Native.Nat.{ℕ, zero, suc}
use native.Mathlib.Omega.{arith}
use borrow.Author.Tests.{ne_eqb}
use lib.Dec.{eqb}
use lib.ListN.{length, take}
use Rattle.declare.specs.declared.Event.{Event}
use Rattle.declare.specs.declared.Standing.{Standing}
use Rattle.declare.specs.declared.Standing.TheVariants.{Idle}
use Rattle.declare.specs.Lists.{all, found, first_up_to}
use Rattle.declare.specs.Comparisons.{test_of, passes}
use Rattle.declare.specs.Conditions.{comparisons_of, tests_of, met}
use Rattle.declare.specs.Events.{event_at}
use Rattle.declare.specs.Rules.{fits_template}
use Rattle.declare.specs.Suits.{occurs, is_activation, activation_at, correlates, suits}
use Rattle.declare.specs.Verdicts.{occurs_at, fits_at, eligible, seen, formula_of, decision, verdict}
use Rattle.declare.proofs.Targets.{target_same}
use Rattle.rule_text.specs.Types.{Comparison, Condition, Rule}
use Rattle.rule_text.specs.Conditions.{condition_of}
use Rattle.rule_text.specs.Written.{canonical_condition, canonical}
use Rattle.rule_text.proofs.Conditions.{comparisons_slots, comparisons_few}

-- ---- conditions

pub canonical_comparisons : (c : Condition) → comparisons_of (canonical_condition c) ≡ comparisons_of c
unfolding canonical_condition
canonical_comparisons c = comparisons_slots (comparisons_of c) (comparisons_few c)

canonical_met : (c : Condition) (a e : Event) → met (canonical_condition c) a e ≡ met c a e
unfolding met tests_of
canonical_met c a e = ap (λ (cs : List Comparison). all (passes e) (map (test_of a) cs)) (canonical_comparisons c)

some_taken : (n : ℕ) (c : Comparison) (cs : List Comparison) → eqb (length (take n (c ∷ cs))) 0 ≡ eqb n 0
some_taken zero c cs = refl
some_taken (suc n) c cs = ne_eqb (suc (length (take n cs))) 0 (λ e. omega arith) ∙ sym (ne_eqb (suc n) 0 (λ e. omega arith))

-- empty if and only if c is
canonical_empty : (c : Condition) → eqb (canonical_condition c).count 0 ≡ eqb c.count 0
unfolding canonical_condition condition_of comparisons_of
canonical_empty c = some_taken c.count c.first (c.second ∷ c.third ∷ c.fourth ∷ [])

-- ---- rules

pub canonical_fits : (r : Rule) → fits_template (canonical r) ≡ fits_template r
unfolding fits_template canonical
canonical_fits r = rw (canonical_empty r.correlation)

canonical_occurs : (r : Rule) (k : ℕ) (e : Event) → occurs (canonical r) k e ≡ occurs r k e
unfolding occurs canonical
canonical_occurs r k e = rw (canonical_met r.condition e e)

canonical_suits : (r : Rule) (a e : Event) → suits (canonical r) a e ≡ suits r a e
unfolding suits correlates canonical
canonical_suits r a e = rw (canonical_met r.correlation a e)

module _ (r : Rule) (es : List Event) where
  canonical_activations : activation_at (canonical r) es ≡ activation_at r es
  unfolding activation_at is_activation canonical
  canonical_activations = fun_ext (λ (i : ℕ). rw (canonical_occurs r r.activation (event_at es i)))

  -- ---- at position 0

  canonical_occurs_at : (k j : ℕ) → occurs_at (canonical r) es k j ≡ occurs_at r es k j
  unfolding occurs_at canonical
  canonical_occurs_at k j = rw (canonical_occurs r k (event_at es j))

  canonical_fits_at : (j : ℕ) → fits_at (canonical r) es j ≡ fits_at r es j
  unfolding fits_at canonical
  canonical_fits_at j = rw (canonical_occurs_at r.activation j, canonical_occurs_at r.target j)

  canonical_seen : (k : ℕ) → seen (canonical r) es k ≡ seen r es k
  unfolding seen
  canonical_seen k = ap (λ (p : ℕ → Bool). found (first_up_to p (length es))) (fun_ext (canonical_occurs_at k))

  canonical_formula : formula_of (canonical r) es ≡ formula_of r es
  unfolding formula_of canonical
  canonical_formula = rw (canonical_seen r.activation, canonical_seen r.target)

  -- ---- at any

  canonical_eligible : (i j : ℕ) → eligible (canonical r) es i j ≡ eligible r es i j
  unfolding eligible canonical
  canonical_eligible i j = rw (canonical_fits_at j, canonical_suits r (event_at es i) (event_at es j), canonical_activations)

  canonical_decision : (i : ℕ) → decision (canonical r) es i ≡ decision r es i
  unfolding decision canonical
  canonical_decision i = rw (canonical_formula, target_same (canonical r) r es i (canonical_eligible i))

  pub canonical_verdict : (i : ℕ) → verdict (canonical r) es i ≡ verdict r es i
  unfolding verdict
  canonical_verdict i =
      ap₂ (λ (a : Bool) (s : Standing). cond a s Idle) (ap (λ (p : ℕ → Bool). p i) canonical_activations) (canonical_decision i)
