-- A condition that is written reads back with the same comparisons; one that was read is written as
-- the same bytes, is within its limits, has no_comparison in the slots that are not in use, and is
-- empty if and only if its field is `-`. By the laws of one comparison, comparison by comparison.
use Rattle.std.specs.Prelude.{Some}
use mathlib.Core.Path.{◌≡◌, refl, sym, ◌∙◌, ap}
use mathlib.Core.Bool.{Bool, true, false, cond, and-false}
use mathlib.Core.List.{List, [], ◌∷◌, ◌++◌, map, append-nil, append_assoc}
use Prim.Native.Nat.{ℕ, suc, ◌+◌, ◌≤◌, ◌<◌}
use native.Mathlib.Omega.{arith}
use borrow.Author.Tests.{ne_eqb, le-leb, lt-ltb, ltb-true}
use lib.Dec.{leb, ltb, eqb}
use lib.ListN.{length, length-append}
use Rattle.declare.specs.Lists.{all}
use Rattle.declare.specs.Conditions.{comparisons_of}
use Rattle.declare.specs.Rules.{is_reading, no_condition, valid_reference, valid_comparison, valid_condition}
use Rattle.declare.proofs.Booleans.{and_left, and_right, both, and₂, all_append}
use Rattle.declare.proofs.Arrival.{valid_comparisons_lem}
use Rattle.number.specs.Number.{dash, none}
use Rattle.number.specs.Written.{digits_of, integer_text}
use Rattle.number.proofs.Written.{written_digits}
use Rattle.line.specs.Fields.{split, joined}
use Rattle.declare.specs.Answers.{accepted, ◌>>=◌, ◌>>◌, require}
use Rattle.line.specs.Values.{reading_text}
use Rattle.declare.proofs.Answers.{of_of, through, required}
use Rattle.line.proofs.Fields.{parts}
use Rattle.line.proofs.Joined.{lacks, lacks_append, lacks_digits, split_joined, lacks_joined, joined_split}
use Rattle.line.proofs.Values.{dash_text, lacks_reading}
use Rattle.rule_text.specs.Types.{Operator, Equal, NotEqual, Less, AtMost, Greater, AtLeast, Reference, Constant, Activation, Comparison, Condition}
use Rattle.rule_text.specs.Comparisons.{operator_byte, comparison_field}
use Rattle.rule_text.specs.Conditions.{comma, comparisons_after, condition_of, comparisons_field, condition_field}
use Rattle.rule_text.specs.Written.{reference_text, comparison_text, comparisons_text, condition_text, canonical_condition}
use Rattle.rule_text.proofs.ComparisonTexts.{reading_digit_lem, comparison_written, comparison_read_lem}
use Rattle.rule_text.proofs.Conditions.{comparisons_slots, comparisons_few}

-- ---- bytes that do not stand in a condition

lacks_more : (b x : ℕ) (s : List ℕ) → eqb x b ≡ false → lacks b s ≡ true → lacks b (x ∷ s) ≡ true
unfolding lacks
lacks_more b x s e h = rw e h

-- a byte below `-` that is not `!`
module _ (b : ℕ) (low : b < 45) (mark : eqb 33 b ≡ false) where
  other : (x : ℕ) → 45 ≤ x → eqb x b ≡ false
  other x h = ne_eqb x b (λ e. omega arith)

  operator_lacks : (o : Operator) → eqb (operator_byte o) b ≡ false
  operator_lacks Equal = other 61 (omega arith)
  operator_lacks NotEqual = mark
  operator_lacks Less = other 60 (omega arith)
  operator_lacks AtMost = other 108 (omega arith)
  operator_lacks Greater = other 62 (omega arith)
  operator_lacks AtLeast = other 103 (omega arith)

  digits_lack : (n : ℕ) → lacks b (digits_of n) ≡ true
  digits_lack n = lacks_digits b (digits_of n) (omega arith) (written_digits n)

  k_lacks : (x : Reference) → lacks b (reference_text x) ≡ true
  unfolding reference_text reading_text
  k_lacks (Constant k) = lacks_reading b (Some k) low
  k_lacks (Activation g k) =
      lacks_more b 64 (digits_of g ++ (58 ∷ integer_text k)) (other 64 (omega arith))
      (lacks_append b (digits_of g) (58 ∷ integer_text k) (digits_lack g) (lacks_more b 58 (integer_text k) (other 58 (omega arith)) (lacks_reading b (Some k) low)))

  comparison_lacks : (c : Comparison) → lacks b (comparison_text c) ≡ true
  unfolding comparison_text
  comparison_lacks c =
      lacks_append b (digits_of c.reading) (operator_byte c.operator ∷ reference_text c.reference) (digits_lack c.reading)
      (lacks_more b (operator_byte c.operator) (reference_text c.reference) (operator_lacks c.operator) (k_lacks c.reference))

  comparisons_lack : (cs : List Comparison) → all (lacks b) (map comparison_text cs) ≡ true
  unfolding all
  comparisons_lack [] = refl
  comparisons_lack (c ∷ cs) = both (comparison_lacks c) (comparisons_lack cs)

  list_lacks : eqb comma b ≡ false → (cs : List Comparison) → lacks b (comparisons_text cs) ≡ true
  unfolding comparisons_text lacks
  list_lacks e [] = rw (other 45 (omega arith))
  list_lacks e (c ∷ cs) = lacks_joined b comma (map comparison_text (c ∷ cs)) e (comparisons_lack (c ∷ cs))

  pub condition_lacks : eqb comma b ≡ false → (c : Condition) → lacks b (condition_text c) ≡ true
  unfolding condition_text
  condition_lacks e c = list_lacks e (comparisons_of c)

-- ---- a condition that is written

after_written : (correlation : Bool) (cs ds : List Comparison) → all (valid_comparison correlation) ds ≡ true → length (cs ++ ds) ≤ 4 → comparisons_after correlation cs (map comparison_text ds) ≡ accepted (cs ++ ds)
unfolding all comparisons_after ◌>>=◌ ◌>>◌ require
after_written correlation cs [] v l = ap accepted (sym (append-nil cs))
after_written correlation cs (d ∷ ds) v l =
    rw (comparison_written correlation d (and_left (valid_comparison correlation d) (all (valid_comparison correlation) ds) v), lt-ltb (length cs) 4 (omega (arith, length-append cs (d ∷ ds))))
    (after_written correlation (cs ++ (d ∷ [])) ds (and_right (valid_comparison correlation d) (all (valid_comparison correlation) ds) v) (rw (append_assoc cs (d ∷ []) ds) l)
    ∙ ap accepted (append_assoc cs (d ∷ []) ds))

-- a comparison has more bytes than `-`
not_dash : (c : Comparison) (cs : List Comparison) → is_reading c.reading ≡ true → dash (joined comma (map comparison_text (c ∷ cs))) ≡ false
unfolding joined comparison_text dash none
not_dash c cs h = rw (reading_digit_lem c.reading h) (and-false (eqb (48 + c.reading) 45))

list_written : (correlation : Bool) (cs : List Comparison) → all (valid_comparison correlation) cs ≡ true → length cs ≤ 4 → condition_field correlation (comparisons_text cs) ≡ accepted (condition_of cs)
unfolding condition_field comparisons_field comparisons_text ◌>>=◌ dash none no_condition condition_of all valid_comparison
list_written correlation [] v l = refl
list_written correlation (c ∷ cs) v l =
    let p : (is_reading c.reading ≡ true) × (valid_reference correlation c.reference ≡ true) = and₂ (and_left (valid_comparison correlation c) (all (valid_comparison correlation) cs) v) in
    rw (not_dash c cs p.0, split_joined comma (comparison_text c) (map comparison_text cs) (comparisons_lack comma (omega arith) refl (c ∷ cs)), after_written correlation [] (c ∷ cs) v l)

pub condition_written : (correlation : Bool) (c : Condition) → valid_condition correlation c ≡ true → condition_field correlation (condition_text c) ≡ accepted (canonical_condition c)
unfolding condition_text canonical_condition
condition_written correlation c v =
    list_written correlation (comparisons_of c) (valid_comparisons_lem correlation c v) (comparisons_few c)

-- ---- a condition that was read

record ComparisonsRead (correlation : Bool) (cs : List Comparison) (fields : List (List ℕ)) (ds : List Comparison) : Type 0 where
  text : map comparison_text ds ≡ map comparison_text cs ++ fields
  valid : all (valid_comparison correlation) ds ≡ true
  few : length ds ≤ 4

map_more : (cs : List Comparison) (c : Comparison) (field : List ℕ) (fields : List (List ℕ)) → comparison_text c ≡ field → map comparison_text (cs ++ (c ∷ [])) ++ fields ≡ map comparison_text cs ++ (field ∷ fields)
map_more [] c field fields e = ap (λ (f : List ℕ). f ∷ fields) e
map_more (d ∷ cs) c field fields e = ap (λ (fs : List (List ℕ)). comparison_text d ∷ fs) (map_more cs c field fields e)

comparisons_read : (correlation : Bool) (cs : List Comparison) (fields : List (List ℕ)) (ds : List Comparison) → all (valid_comparison correlation) cs ≡ true → length cs ≤ 4 → comparisons_after correlation cs fields ≡ accepted ds → ComparisonsRead correlation cs fields ds
unfolding comparisons_after all
comparisons_read correlation cs [] ds v l h =
    let e : cs ≡ ds = of_of h in
    record {
      text = ap (map comparison_text) (sym e) ∙ sym (append-nil (map comparison_text cs));
      valid = rw (← e) v;
      few = rw (← e) l;
    }
comparisons_read correlation cs (field ∷ fields) ds v l h =
    let w = through (comparison_field correlation field) _ ds h in
    let c : Comparison = w.value in
    let u = required (ltb (length cs) 4) 17 _ ds w.rest in
    let r = comparison_read_lem correlation field c w.first in
    let m : length (cs ++ (c ∷ [])) ≤ 4 = omega (arith, ltb-true (length cs) 4 u.0, length-append cs (c ∷ [])) in
    let q = comparisons_read correlation (cs ++ (c ∷ [])) fields ds (all_append (valid_comparison correlation) cs (c ∷ []) v (both r.valid refl)) m u.1 in
    record { text = q.text ∙ map_more cs c field fields r.text; valid = q.valid; few = q.few }

pub record ConditionRead (correlation : Bool) (field : List ℕ) (c : Condition) : Type 0 where
  pub text : condition_text c ≡ field
  pub valid : valid_condition correlation c ≡ true
  pub is_canonical : canonical_condition c ≡ c
  pub empty : eqb c.count 0 ≡ dash field

-- a split has a first part, so that there is some comparison
list_text : (cs : List Comparison) (field : List ℕ) → map comparison_text cs ≡ split comma field → comparisons_text cs ≡ field
unfolding comparisons_text
list_text [] field e = absurd (omega (arith, ap length (e ∙ parts comma field)))
list_text (c ∷ cs) field e = ap (joined comma) e ∙ joined_split comma field

few_counted : (cs : List Comparison) → length cs ≤ 4 → leb (condition_of cs).count 4 ≡ true
unfolding condition_of
few_counted cs h = le-leb (length cs) 4 h

some_counted : (cs : List Comparison) (field : List ℕ) → map comparison_text cs ≡ split comma field → eqb (condition_of cs).count 0 ≡ false
unfolding condition_of
some_counted [] field e = absurd (omega (arith, ap length (e ∙ parts comma field)))
some_counted (c ∷ cs) field e = ne_eqb (suc (length cs)) 0 (λ z. omega arith)

list_read : (correlation : Bool) (cs : List Comparison) (field : List ℕ) → dash field ≡ false → ComparisonsRead correlation [] (split comma field) cs → ConditionRead correlation field (condition_of cs)
unfolding condition_text valid_condition canonical_condition
list_read correlation cs field p w =
    let same = comparisons_slots cs w.few in
    record {
      text = ap comparisons_text same ∙ list_text cs field w.text;
      valid = both (few_counted cs w.few) (rw same w.valid);
      is_canonical = ap condition_of same;
      empty = some_counted cs field w.text ∙ sym p;
    }

none_read : (correlation : Bool) (field : List ℕ) → dash field ≡ true → ConditionRead correlation field no_condition
unfolding condition_text comparisons_text valid_condition canonical_condition no_condition comparisons_of condition_of all
none_read correlation field p = record { text = dash_text field p; valid = refl; is_canonical = refl; empty = sym p }

pub condition_read_lem : (correlation : Bool) (field : List ℕ) (c : Condition) → condition_field correlation field ≡ accepted c → ConditionRead correlation field c
unfolding condition_field comparisons_field all
condition_read_lem correlation field c h = go (dash field) refl h
  where
    go : (t : Bool) → dash field ≡ t → cond t (accepted no_condition) (comparisons_field correlation field) ≡ accepted c → ConditionRead correlation field c
    go true p q = rw (← of_of q) (none_read correlation field p)
    go false p q =
        let w = through (comparisons_after correlation [] (split comma field)) (λ cs. accepted (condition_of cs)) c q in
        rw (← of_of w.rest) (list_read correlation w.value field p (comparisons_read correlation [] (split comma field) w.value refl (omega arith) w.first))
