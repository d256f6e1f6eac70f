-- The causes for which a line of a text is refused, in document 01's order: "12, 1, then field by
-- field 2 or 4, 3, 5 (in a condition comparison by comparison), then 6 or 7, then 8"; 16 "follows
-- 6", and 17 stands "where 5 stood" (document 02). Each is a test of the line's own bytes and of the
-- records above it.
use Rattle.std.specs.Prelude.{Bool, true, false, not, cond, ◌&&◌, ◌||◌, List, [], ◌∷◌, ◌++◌, ℕ, ◌+◌, leb, ltb, eqb, length, get_or, drop, Some}
use Rattle.declare.specs.declared.Event.{Event}
use Rattle.declare.specs.declared.Rule.{Rule}
use Rattle.declare.specs.declared.Refusal.TheVariants.{FieldCount, NumberForm, OutOfRange, ComparisonForm, EmptyWindow, TimeFalls, TooMany, TemplateMismatch, TooManyComparisons}
use Rattle.declare.specs.Lists.{any}
use Rattle.declare.specs.Limits.{most_comparisons, last_activity, last_template, most_rules, most_events}
use Rattle.declare.specs.Events.{latest, in_range, last_time}
use Rattle.declare.specs.Overall.{is_overall}
use Rattle.number.specs.Number.{natural_form, integer_form, dash, value_of, integer_value}
use Rattle.line.specs.Fields.{split}
use Rattle.rule_text.specs.Comparisons.{reading_digit}
use Rattle.rule_text.specs.Conditions.{comma}
use Rattle.demands.specs.Causes.{Cause, cause}

-- groups of causes, one after the other
unfoldable pub in_turn : List (List Cause) → List Cause
in_turn [] = []
in_turn (group ∷ later) = group ++ in_turn later

-- ---- fields

-- an unsigned number from low to high: not "of the number form" 2, "outside its range" 3
unfoldable pub number_causes : ℕ → ℕ → List ℕ → List Cause
number_causes low high field =
    cause NumberForm (not (natural_form field))
    ∷ cause OutOfRange (not (leb low (value_of field) && leb (value_of field) high))
    ∷ []

-- "`-` alone means blank reading, no end, or empty condition": there is no other cause then
unfoldable pub unless_dash : List ℕ → List Cause → List Cause
unless_dash field causes = cond (dash field) [] causes

unfoldable pub reading_causes : List ℕ → List Cause
reading_causes field =
    unless_dash field
    (cause NumberForm (not (integer_form field))
    ∷ cause OutOfRange (not (in_range (Some (integer_value field))))
    ∷ [])

-- ---- conditions

-- "one byte of `=` `!` `<` `l` `>` `g`"
unfoldable pub is_operator : ℕ → Bool
is_operator b = any (eqb b) (61 ∷ 33 ∷ 60 ∷ 108 ∷ 62 ∷ 103 ∷ [])

-- "`@`, a digit `1` to `4` for the activation's reading, `:`", and k
unfoldable pub activation_form : List ℕ → Bool
activation_form s =
    eqb (get_or s 0 0) 64 && reading_digit (get_or s 1 0) && eqb (get_or s 2 0) 58 && integer_form (drop 3 s)

-- "k, or `@` .. k"; "`@` in an activation condition" is not of the form
unfoldable pub reference_form : Bool → List ℕ → Bool
reference_form correlation s = integer_form s || (correlation && activation_form s)

-- the bytes of its k
unfoldable pub constant_in : List ℕ → List ℕ
constant_in s = cond (eqb (get_or s 0 0) 64) (drop 3 s) s

-- "a digit `1` to `4` for the reading, then one byte of .., then k, or `@` .."
unfoldable pub comparison_form : Bool → List ℕ → Bool
comparison_form correlation s =
    reading_digit (get_or s 0 0) && is_operator (get_or s 1 0) && reference_form correlation (drop 2 s)

-- "comparison by comparison" 4, 3, 17; `before` is how many stand before it
unfoldable pub comparison_causes : Bool → ℕ → List (List ℕ) → List Cause
comparison_causes correlation before [] = []
comparison_causes correlation before (s ∷ more) =
    cause ComparisonForm (not (comparison_form correlation s))
    ∷ cause OutOfRange (not (in_range (Some (integer_value (constant_in (drop 2 s))))))
    ∷ cause TooManyComparisons (leb most_comparisons before)
    ∷ comparison_causes correlation (before + 1) more

unfoldable pub condition_causes : Bool → List ℕ → List Cause
condition_causes correlation field = unless_dash field (comparison_causes correlation 0 (split comma field))

-- ---- lines

-- "a cycle line: time, activity, four readings"
abbrev pub event_field_causes : List (List ℕ) → List (List Cause)
event_field_causes fields =
    (cause FieldCount (not (eqb (length fields) 6)) ∷ [])
    ∷ number_causes 0 latest (get_or fields 0 [])
    ∷ number_causes 1 last_activity (get_or fields 1 [])
    ∷ reading_causes (get_or fields 2 [])
    ∷ reading_causes (get_or fields 3 [])
    ∷ reading_causes (get_or fields 4 [])
    ∷ reading_causes (get_or fields 5 [])
    ∷ []

-- "time below the last taken", "257th event"
abbrev pub event_place_causes : List Event → ℕ → List (List Cause)
event_place_causes above time =
    (cause TimeFalls (ltb time (last_time above)) ∷ []) ∷ (cause TooMany (leb most_events (length above)) ∷ []) ∷ []

unfoldable pub event_causes : List Event → List (List ℕ) → List Cause
event_causes above fields = in_turn (event_field_causes fields ++ event_place_causes above (value_of (get_or fields 0 [])))

-- "equal activities under 15 or 16, or a correlation under 13 to 16": its field is not `-`
unfoldable pub mismatch : ℕ → ℕ → ℕ → List ℕ → Bool
mismatch code activation target correlation =
    ((eqb code 15 || eqb code 16) && eqb activation target) || (is_overall code && not (dash correlation))

-- "a rule line: code, activation activity, target activity, a, b, activation condition, correlation
-- condition"; "b not above a" is 6
abbrev pub rule_field_causes : List (List ℕ) → List (List Cause)
rule_field_causes fields =
    (cause FieldCount (not (eqb (length fields) 7)) ∷ [])
    ∷ number_causes 1 last_template (get_or fields 0 [])
    ∷ number_causes 1 last_activity (get_or fields 1 [])
    ∷ number_causes 1 last_activity (get_or fields 2 [])
    ∷ number_causes 0 latest (get_or fields 3 [])
    ∷ unless_dash (get_or fields 4 []) (number_causes 1 latest (get_or fields 4 []))
    ∷ condition_causes false (get_or fields 5 [])
    ∷ condition_causes true (get_or fields 6 [])
    ∷ unless_dash (get_or fields 4 []) (cause EmptyWindow (leb (value_of (get_or fields 4 [])) (value_of (get_or fields 3 []))) ∷ [])
    ∷ (cause TemplateMismatch (mismatch (value_of (get_or fields 0 [])) (value_of (get_or fields 1 [])) (value_of (get_or fields 2 [])) (get_or fields 6 [])) ∷ [])
    ∷ []

-- "17th rule"
abbrev pub rule_place_causes : List Rule → List (List Cause)
rule_place_causes above = (cause TooMany (leb most_rules (length above)) ∷ []) ∷ []

unfoldable pub rule_causes : List Rule → List (List ℕ) → List Cause
rule_causes above fields = in_turn (rule_field_causes fields ++ rule_place_causes above)
