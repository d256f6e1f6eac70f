-- A written rules text is bytes, at most 155 a line: each field of a valid rule by its range or by
-- its comparisons, then a line and a text by the laws of texts.
use Rattle.std.specs.Prelude.{None, Some}
use mathlib.Core.Path.{◌≡◌, refl}
use mathlib.Core.Bool.{Bool, true, false, false≢true}
use mathlib.Core.List.{List, [], ◌∷◌, map}
use Prim.Native.Nat.{ℕ, zero, suc, ◌+◌, ◌*◌, ◌≤◌}
use native.Mathlib.Omega.{arith}
use borrow.Author.Tests.{leb-true}
use lib.Dec.{leb, ltb}
use lib.ListN.{length, replicate}
use Rattle.declare.specs.Lists.{all}
use Rattle.declare.specs.Conditions.{comparisons_of}
use Rattle.declare.specs.Events.{latest, in_range}
use Rattle.declare.specs.Rules.{is_reading, valid_reference, valid_comparison, valid_condition, valid_end, valid_rule}
use Rattle.declare.proofs.Booleans.{and₂}
use Rattle.declare.proofs.Arrival.{valid_comparisons_lem}
use Rattle.declare.proofs.Satisfiability.{one_of_four}
use Rattle.line.specs.Fields.{is_byte}
use Rattle.line.specs.Values.{reading_text}
use Rattle.line.proofs.Lengths.{Within, within_none, within_more, within_most, Each, no_more, ◌and◌, number_within, reading_within, joined_most, joined_within, text_within}
use Rattle.rule_text.specs.Types.{Operator, Equal, NotEqual, Less, AtMost, Greater, AtLeast, Reference, Constant, Activation, Comparison, Condition, End, Rule}
use Rattle.rule_text.specs.Comparisons.{operator_byte}
use Rattle.rule_text.specs.Conditions.{comma}
use Rattle.rule_text.specs.Written.{reference_text, comparison_text, comparisons_text, condition_text, end_text, rule_fields, rules_text, ValidRules, WrittenBytes}
use Rattle.rule_text.proofs.ComparisonTexts.{reading_digit_lem}
use Rattle.rule_text.proofs.Conditions.{comparisons_few}
use Rattle.rule_text.proofs.RoundTrips.{limits}

-- ---- comparisons

digit_byte : (r : ℕ) → is_reading r ≡ true → is_byte (48 + r) ≡ true
unfolding is_byte
digit_byte r h = one_of_four (λ k. is_byte (48 + k) ≡ true) refl refl refl refl r h

operator_byte_lem : (o : Operator) → is_byte (operator_byte o) ≡ true
unfolding is_byte
operator_byte_lem Equal = refl
operator_byte_lem NotEqual = refl
operator_byte_lem Less = refl
operator_byte_lem AtMost = refl
operator_byte_lem Greater = refl
operator_byte_lem AtLeast = refl

-- the most bytes of a reference: `@1:` may stand before k in a correlation
abbrev reference_most : Bool → ℕ
reference_most false = 11
reference_most true = 14

reference_within : (correlation : Bool) (x : Reference) → valid_reference correlation x ≡ true → Within (reference_most correlation) (reference_text x)
unfolding valid_reference reference_text reading_text is_byte
reference_within false (Constant k) h = reading_within (Some k) h
reference_within true (Constant k) h = within_most (omega arith) (reading_within (Some k) h)
reference_within false (Activation g k) h = absurd (false≢true h)
reference_within true (Activation g k) h =
    let p : (is_reading g ≡ true) × (in_range (Some k) ≡ true) = and₂ h in
    rw (reading_digit_lem g p.0)
    (within_more 64 refl (within_more (48 + g) (digit_byte g p.0) (within_more 58 refl (reading_within (Some k) p.1))))

-- a digit and an operator before it
abbrev comparison_most : Bool → ℕ
comparison_most correlation = suc (suc (reference_most correlation))

comparison_within : (correlation : Bool) (c : Comparison) → valid_comparison correlation c ≡ true → Within (comparison_most correlation) (comparison_text c)
unfolding valid_comparison comparison_text
comparison_within correlation c h =
    let p : (is_reading c.reading ≡ true) × (valid_reference correlation c.reference ≡ true) = and₂ h in
    rw (reading_digit_lem c.reading p.0)
    (within_more (48 + c.reading) (digit_byte c.reading p.0)
    (within_more (operator_byte c.operator) (operator_byte_lem c.operator) (reference_within correlation c.reference p.1)))

-- ---- conditions

comparisons_within : (correlation : Bool) (k : ℕ) (cs : List Comparison) → length cs ≤ k → all (valid_comparison correlation) cs ≡ true → Each (replicate k (comparison_most correlation)) (map comparison_text cs)
unfolding all
comparisons_within correlation k [] l h = no_more
comparisons_within correlation zero (c ∷ cs) l h = absurd (omega arith)
comparisons_within correlation (suc k) (c ∷ cs) l h =
    let p : (valid_comparison correlation c ≡ true) × (all (valid_comparison correlation) cs ≡ true) = and₂ h in
    comparison_within correlation c p.0 and comparisons_within correlation k cs (omega arith) p.1

-- four of them
abbrev condition_most : Bool → ℕ
condition_most correlation = joined_most (replicate 4 (comparison_most correlation))

list_within : (correlation : Bool) (cs : List Comparison) → length cs ≤ 4 → all (valid_comparison correlation) cs ≡ true → Within (condition_most correlation) (comparisons_text cs)
unfolding comparisons_text is_byte
list_within correlation [] l h = within_most (omega arith) (within_more 45 refl (within_none 0))
list_within correlation (c ∷ cs) l h = joined_within comma refl (comparisons_within correlation 4 (c ∷ cs) l h)

condition_within : (correlation : Bool) (c : Condition) → valid_condition correlation c ≡ true → Within (condition_most correlation) (condition_text c)
unfolding condition_text
condition_within correlation c h =
    list_within correlation (comparisons_of c) (comparisons_few c) (valid_comparisons_lem correlation c h)

-- ---- a line, and a text

end_within : (a : ℕ) (e : End) → valid_end a e ≡ true → Within 10 (end_text e)
unfolding valid_end end_text is_byte
end_within a None h = within_more 45 refl (within_none 9)
end_within a (Some b) h =
    let p : (ltb a b ≡ true) × (leb b latest ≡ true) = and₂ h in
    number_within 9 b (omega (arith, leb-true b latest p.1))

-- the most bytes of each field
abbrev fields_most : List ℕ
fields_most = 2 ∷ 2 ∷ 2 ∷ 10 ∷ 10 ∷ 55 ∷ 67 ∷ []

fields_within : (r : Rule) → valid_rule r ≡ true → Each fields_most (rule_fields r)
unfolding rule_fields
fields_within r h =
    let w = limits r h in
    number_within 1 r.code (omega (arith, w.code.1))
    and number_within 1 r.activation (omega (arith, w.activation.1))
    and number_within 1 r.target (omega (arith, w.target.1))
    and number_within 9 r.window.from (omega (arith, w.from))
    and end_within r.window.from r.window.until w.until
    and condition_within false r.condition w.condition
    and condition_within true r.correlation w.correlation
    and no_more

pub text_bytes : (rs : List Rule) → ValidRules rs → Within (155 * length rs) (rules_text rs)
unfolding rules_text
text_bytes rs s = text_within rule_fields fields_most valid_rule fields_within rs s.valid

pub written_bytes : WrittenBytes
written_bytes = record { bytes = λ rs s. (text_bytes rs s).bytes; most = λ rs s. (text_bytes rs s).most }
