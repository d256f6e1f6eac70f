-- The causes of a field, and what its reader makes of them: each check of the reader is the cause
-- of the same place.
use Rattle.std.specs.Prelude.{None, Some, Result, Ok, Err}
use mathlib.Core.Path.{◌≡◌, refl, sym, ap, ◌∙◌}
use mathlib.Core.Bool.{Bool, true, false, not, cond, ◌&&◌, ◌||◌, and-false, or-false, false≢true}
use mathlib.Core.List.{List, [], ◌∷◌, ◌++◌}
use Prim.Native.Nat.{ℕ, ◌+◌, ◌-◌}
use lib.Dec.{leb, ltb, eqb}
use lib.IntN.{ℤ, pos, negsuc}
use lib.Signed.{le_z}
use lib.ListN.{length, get_or, drop, length-append}
use lib.Seq.{get_or-drop, drop-drop}
use borrow.Author.Tests.{eqb-true}
use Rattle.declare.specs.Types.{End}
use Rattle.declare.specs.declared.Operator.TheVariants.{Equal, NotEqual, Less, AtMost, Greater, AtLeast}
use Rattle.declare.specs.declared.Reference.TheVariants.{Constant, Activation}
use Rattle.declare.specs.declared.Comparison.{Comparison}
use Rattle.declare.specs.declared.Rule.{Rule}
use Rattle.declare.specs.declared.Refusal.{Refusal}
use Rattle.declare.specs.declared.Refusal.TheVariants.{NumberForm, OutOfRange, ComparisonForm, EmptyWindow, TooManyComparisons}
use Rattle.declare.specs.Lists.{any}
use Rattle.declare.specs.Rules.{fits_template, no_condition}
use Rattle.declare.specs.Events.{least, greatest, in_range}
use Rattle.declare.specs.Overall.{is_overall, overall_of, counts_target}
use Rattle.declare.specs.Refusals.{number_of}
use Rattle.declare.proofs.Booleans.{fails}
use Rattle.declare.proofs.Lists.{ltb_not}
use Rattle.declare.proofs.OverallWords.{of_overall_lem}
use Rattle.number.specs.declared.Fault.{Fault}
use Rattle.number.specs.declared.Fault.TheVariants.{Form, Range}
use Rattle.number.specs.Number.{digit, zero_alone, positive, negative, natural_form, integer_form, dash, value_of, integer_value, natural_of, integer_of, in_signed_range, in_natural_range}
use Rattle.line.specs.Fields.{split}
use Rattle.declare.specs.Answers.{Answer, accepted, refused, ◌>>=◌, ◌>>◌, require}
use Rattle.line.specs.Values.{natural_answer, number_field, integer_answer, reading_field}
use Rattle.declare.proofs.Answers.{no_of, of_of, through}
use Rattle.rule_text.specs.Comparisons.{reading_digit, digit_of, operator_of, k_number, k_answer, k_field, constant_field, activation_field, reference_field, comparison_field}
use Rattle.rule_text.specs.Conditions.{comma, comparisons_after, condition_of, comparisons_field, condition_field}
use Rattle.rule_text.specs.Rules.{end_field, is_above}
use Rattle.demands.specs.Causes.{Cause, cause}
use Rattle.demands.specs.LineCauses.{number_causes, unless_dash, reading_causes, is_operator, activation_form, reference_form, constant_in, comparison_form, comparison_causes, condition_causes, mismatch}
use Rattle.demands.proofs.Chains.{Has, checked, in_order, has_none, has_one, has_unless, has_then}

-- no number begins with `@`
no_number : (s : List ℕ) → eqb (get_or s 0 0) 64 ≡ true → integer_form s ≡ false
unfolding integer_form natural_form zero_alone positive negative digit
no_number [] e = absurd (false≢true e)
no_number (x ∷ s) e = rw (eqb-true x 64 e)

-- ---- the shapes of checks

-- what is made of a value has no cause of its own
has_made : {A B : Type 0} (x : Answer A) (f : A → B) (causes : List Cause) → Has x causes → Has (x >>= λ a. accepted (f a)) causes
unfolding checked ◌>>=◌
has_made (accepted a) f causes h = h
has_made (refused n) f causes h = h

has_dash : {A : Type 0} (field : List ℕ) (a : A) (x : Answer A) (causes : List Cause) → Has x causes → Has (cond (dash field) (accepted a) x) (unless_dash field causes)
unfolding unless_dash checked in_order
has_dash field a x causes h = go (dash field)
  where
    go : (t : Bool) → Has (cond t (accepted a) x) (cond t [] causes)
    go true = refl
    go false = h

-- ---- fields

pub has_number : (low high : ℕ) (field : List ℕ) → Has (number_field low high field) (number_causes low high field)
unfolding number_field natural_of in_natural_range checked in_order require ◌>>◌ number_causes number_of
has_number low high field = go (natural_form field) (leb low (value_of field) && leb (value_of field) high)
  where
    go : (f r : Bool) → checked (natural_answer (cond f (cond r (Ok (value_of field)) (Err Range)) (Err Form))) ≡ in_order (cause NumberForm (not f) ∷ cause OutOfRange (not r) ∷ [])
    go false r = refl
    go true false = refl
    go true true = refl

pub number_value : (low high : ℕ) (field : List ℕ) (v : ℕ) → number_field low high field ≡ accepted v → v ≡ value_of field
unfolding number_field natural_of in_natural_range
number_value low high field v = go (natural_form field) (leb low (value_of field) && leb (value_of field) high)
  where
    go : (f r : Bool) → natural_answer (cond f (cond r (Ok (value_of field)) (Err Range)) (Err Form)) ≡ accepted v → v ≡ value_of field
    go false r e = absurd (no_of e)
    go true false e = absurd (no_of e)
    go true true e = sym (of_of e)

-- a signed number; the cause of a wrong form is 2 of a reading, 4 of k
has_signed : {A : Type 0} (form : Refusal) (x : Result ℤ Fault → Answer A) (field : List ℕ) → ((z : ℤ) → checked (x (Ok z)) ≡ accepted tt) → checked (x (Err Form)) ≡ refused (number_of form) → checked (x (Err Range)) ≡ refused (number_of OutOfRange) → Has (x (integer_of field)) (cause form (not (integer_form field)) ∷ cause OutOfRange (not (in_range (Some (integer_value field)))) ∷ [])
unfolding integer_of in_signed_range in_range least greatest in_order require ◌>>◌
has_signed form x field value malformed outside = go (integer_form field) (le_z (negsuc 2147483647) (integer_value field) && le_z (integer_value field) (pos 2147483647))
  where
    go : (f r : Bool) → checked (x (cond f (cond r (Ok (integer_value field)) (Err Range)) (Err Form))) ≡ in_order (cause form (not f) ∷ cause OutOfRange (not r) ∷ [])
    go false r = malformed
    go true false = outside
    go true true = value (integer_value field)

pub has_reading : (field : List ℕ) → Has (reading_field field) (reading_causes field)
unfolding reading_field reading_causes checked number_of
has_reading field =
    has_dash field None (integer_answer (integer_of field)) (cause NumberForm (not (integer_form field)) ∷ cause OutOfRange (not (in_range (Some (integer_value field)))) ∷ []) (has_signed NumberForm integer_answer field (λ z. refl) refl refl)

has_k : (field : List ℕ) → Has (k_field field) (cause ComparisonForm (not (integer_form field)) ∷ cause OutOfRange (not (in_range (Some (integer_value field)))) ∷ [])
unfolding k_field k_answer k_number checked number_of
has_k field = has_signed ComparisonForm k_answer field (λ z. refl) refl refl

pub has_until : (field : List ℕ) → Has (end_field field) (unless_dash field (number_causes 1 4294967295 field))
unfolding end_field
has_until field = has_dash field None _ (number_causes 1 4294967295 field) (has_made (number_field 1 4294967295 field) Some (number_causes 1 4294967295 field) (has_number 1 4294967295 field))

-- "b not above a"
pub has_above : {A : Type 0} (a : ℕ) (b : End) (field : List ℕ) (x : Answer A) (later : List Cause) → end_field field ≡ accepted b → Has x later → Has (require (is_above b a) 6 >> x) (unless_dash field (cause EmptyWindow (leb (value_of field) a) ∷ []) ++ later)
unfolding end_field unless_dash is_above require ◌>>◌ number_of
has_above a b field x later e h = go (dash field) e
  where
    go : (t : Bool) → cond t (accepted None) (number_field 1 4294967295 field >>= λ v. accepted (Some v)) ≡ accepted b → Has (require (is_above b a) 6 >> x) (cond t [] (cause EmptyWindow (leb (value_of field) a) ∷ []) ++ later)
    go true e = rw (← of_of e) h
    go false e =
        let v = through (number_field 1 4294967295 field) (λ v. accepted (Some v)) b e in
        let q : Some (value_of field) ≡ b = sym (ap Some (number_value 1 4294967295 field v.value v.first)) ∙ of_of v.rest in
        rw (← q, ltb_not a (value_of field)) (has_unless (leb (value_of field) a) EmptyWindow 6 x later refl h)

-- ---- the template

-- the target activity counts "under 15 or 16"
counts_under : (code : ℕ) → (is_overall code && counts_target (overall_of code)) ≡ (eqb code 15 || eqb code 16)
unfolding is_overall overall_of
counts_under code = go (is_overall code) refl
  where
    go : (t : Bool) → is_overall code ≡ t → (t && counts_target (overall_of code)) ≡ (eqb code 15 || eqb code 16)
    go true o = of_overall_lem (λ k. counts_target (overall_of k) ≡ (eqb k 15 || eqb k 16)) refl refl refl refl code o
    go false o =
        rw (fails (eqb code 15) (λ e. ap is_overall (eqb-true code 15 e)) o, fails (eqb code 16) (λ e. ap is_overall (eqb-true code 16 e)) o)

-- of a rule whose correlation is empty if and only if the field is `-`
pub fits_unless : (r : Rule) (field : List ℕ) → eqb r.correlation.count 0 ≡ dash field → fits_template r ≡ not (mismatch r.code r.activation r.target field)
unfolding fits_template mismatch
fits_unless r field e = rw (e, ← counts_under r.code) (go (is_overall r.code) (counts_target (overall_of r.code)) (eqb r.activation r.target) (dash field))
  where
    go : (overall counts equal empty : Bool) → (not overall || (empty && not (counts && equal))) ≡ not (((overall && counts) && equal) || (overall && not empty))
    go false counts equal empty = refl
    go true true true empty = and-false empty
    go true true false true = refl
    go true true false false = refl
    go true false equal true = refl
    go true false equal false = refl

-- ---- comparisons

-- two causes of the same number
has_both : (refusal : Refusal) (p q : Bool) (later : List Cause) → in_order (cause refusal (not p) ∷ cause refusal (not q) ∷ later) ≡ in_order (cause refusal (not (p && q)) ∷ later)
unfolding in_order require ◌>>◌
has_both refusal true q later = refl
has_both refusal false q later = refl

has_operator : (b : ℕ) → Has (operator_of b) (cause ComparisonForm (not (is_operator b)) ∷ [])
unfolding operator_of is_operator any checked in_order require ◌>>◌ number_of
has_operator b = go (eqb b 61) (eqb b 33) (eqb b 60) (eqb b 108) (eqb b 62) (eqb b 103)
  where
    go : (e n l m g k : Bool) → checked (cond e (accepted Equal) (cond n (accepted NotEqual) (cond l (accepted Less) (cond m (accepted AtMost) (cond g (accepted Greater) (cond k (accepted AtLeast) (refused 4))))))) ≡ in_order (cause ComparisonForm (not (e || (n || (l || (m || (g || (k || false))))))) ∷ [])
    go true n l m g k = refl
    go false true l m g k = refl
    go false false true m g k = refl
    go false false false true g k = refl
    go false false false false true k = refl
    go false false false false false true = refl
    go false false false false false false = refl

has_digit : (b : ℕ) → Has (digit_of b) (cause ComparisonForm (not (reading_digit b)) ∷ [])
unfolding digit_of number_of
has_digit b = has_one (reading_digit b) ComparisonForm 4 (accepted (b - 48)) [] refl (has_none (b - 48))

has_activation : (s : List ℕ) → Has (activation_field s) (cause ComparisonForm (not (reading_digit (get_or s 0 0) && eqb (get_or s 1 0) 58 && integer_form (drop 2 s))) ∷ cause OutOfRange (not (in_range (Some (integer_value (drop 2 s))))) ∷ [])
unfolding activation_field number_of
has_activation s =
    has_then (digit_of (get_or s 0 0)) _ (cause ComparisonForm (not digit) ∷ []) (cause ComparisonForm (not colon) ∷ cause ComparisonForm (not form) ∷ range ∷ []) (has_digit (get_or s 0 0))
    (λ g e. has_one colon ComparisonForm 4 _ (cause ComparisonForm (not form) ∷ range ∷ []) refl (has_made (k_field (drop 2 s)) (Activation g) (cause ComparisonForm (not form) ∷ range ∷ []) (has_k (drop 2 s))))
    ∙ has_both ComparisonForm digit colon (cause ComparisonForm (not form) ∷ range ∷ [])
    ∙ has_both ComparisonForm (digit && colon) form (range ∷ [])
  where
    digit : Bool
    digit = reading_digit (get_or s 0 0)

    colon : Bool
    colon = eqb (get_or s 1 0) 58

    form : Bool
    form = integer_form (drop 2 s)

    range : Cause
    range = cause OutOfRange (not (in_range (Some (integer_value (drop 2 s)))))

has_reference : (correlation : Bool) (s : List ℕ) → Has (reference_field correlation s) (cause ComparisonForm (not (reference_form correlation s)) ∷ cause OutOfRange (not (in_range (Some (integer_value (constant_in s))))) ∷ [])
unfolding reference_field reference_form activation_form constant_in constant_field number_of
has_reference correlation s = go (eqb (get_or s 0 0) 64) refl
  where
    go : (t : Bool) → eqb (get_or s 0 0) 64 ≡ t → Has (reference_field correlation s) (cause ComparisonForm (not (reference_form correlation s)) ∷ cause OutOfRange (not (in_range (Some (integer_value (constant_in s))))) ∷ [])
    go true e =
        let a : Has (activation_field (drop 1 s)) (cause ComparisonForm (not (reading_digit (get_or s 1 0) && eqb (get_or s 2 0) 58 && integer_form (drop 3 s))) ∷ cause OutOfRange (not (in_range (Some (integer_value (drop 3 s))))) ∷ []) = rw (get_or-drop 1 s 0 0, get_or-drop 1 s 1 0, drop-drop 2 1 s) at (has_activation (drop 1 s)) in
        rw (e, no_number s e)
        (has_one correlation ComparisonForm 4 (activation_field (drop 1 s)) _ refl a
        ∙ has_both ComparisonForm correlation (reading_digit (get_or s 1 0) && eqb (get_or s 2 0) 58 && integer_form (drop 3 s)) _)
    go false e = rw (e, and-false correlation, or-false (integer_form s)) (has_made (k_field s) Constant _ (has_k s))

has_comparison : (correlation : Bool) (s : List ℕ) → Has (comparison_field correlation s) (cause ComparisonForm (not (comparison_form correlation s)) ∷ cause OutOfRange (not (in_range (Some (integer_value (constant_in (drop 2 s)))))) ∷ [])
unfolding comparison_field comparison_form
has_comparison correlation s =
    has_then (digit_of (get_or s 0 0)) _ (cause ComparisonForm (not digit) ∷ []) (cause ComparisonForm (not operator) ∷ cause ComparisonForm (not form) ∷ range ∷ []) (has_digit (get_or s 0 0))
    (λ g d. has_then (operator_of (get_or s 1 0)) _ (cause ComparisonForm (not operator) ∷ []) (cause ComparisonForm (not form) ∷ range ∷ []) (has_operator (get_or s 1 0))
    (λ o e. has_made (reference_field correlation (drop 2 s)) _ (cause ComparisonForm (not form) ∷ range ∷ []) (has_reference correlation (drop 2 s))))
    ∙ has_both ComparisonForm digit operator (cause ComparisonForm (not form) ∷ range ∷ [])
    ∙ has_both ComparisonForm (digit && operator) form (range ∷ [])
  where
    digit : Bool
    digit = reading_digit (get_or s 0 0)

    operator : Bool
    operator = is_operator (get_or s 1 0)

    form : Bool
    form = reference_form correlation (drop 2 s)

    range : Cause
    range = cause OutOfRange (not (in_range (Some (integer_value (constant_in (drop 2 s))))))

-- ---- conditions

has_comparisons : (correlation : Bool) (above : List Comparison) (fields : List (List ℕ)) → Has (comparisons_after correlation above fields) (comparison_causes correlation (length above) fields)
unfolding comparisons_after comparison_causes number_of
has_comparisons correlation above [] = has_none above
has_comparisons correlation above (s ∷ fields) =
    has_then (comparison_field correlation s) _ (cause ComparisonForm (not (comparison_form correlation s)) ∷ cause OutOfRange (not (in_range (Some (integer_value (constant_in (drop 2 s)))))) ∷ []) (cause TooManyComparisons (leb 4 (length above)) ∷ comparison_causes correlation (length above + 1) fields) (has_comparison correlation s)
    (λ c e. further c (has_comparisons correlation (above ++ (c ∷ [])) fields))
  where
    further : (c : Comparison) → Has (comparisons_after correlation (above ++ (c ∷ [])) fields) (comparison_causes correlation (length (above ++ (c ∷ []))) fields) → Has (require (ltb (length above) 4) 17 >> comparisons_after correlation (above ++ (c ∷ [])) fields) (cause TooManyComparisons (leb 4 (length above)) ∷ comparison_causes correlation (length above + 1) fields)
    further c h =
        rw (ltb_not (length above) 4, ← length-append above (c ∷ []))
        (has_unless (leb 4 (length above)) TooManyComparisons 17 _ _ refl h)

pub has_condition : (correlation : Bool) (field : List ℕ) → Has (condition_field correlation field) (condition_causes correlation field)
unfolding condition_field comparisons_field condition_causes
has_condition correlation field =
    has_dash field no_condition _ (comparison_causes correlation 0 (split comma field))
    (has_made (comparisons_after correlation [] (split comma field)) condition_of _ (has_comparisons correlation [] (split comma field)))
