-- What a rules text holds, by document 01: its lines, their fields, and the order of the checks.
-- "In a line: 12, 1, then field by field 2 or 4, 3, 5 (in a condition comparison by comparison),
-- then 6 .., then 8"; 16 "follows 6" (document 02). The line's 12 is in `text_of`.
use Rattle.std.specs.Prelude.{Bool, true, false, cond, List, [], ℕ, eqb, ltb, length, get_or, None, Some}
use Rattle.declare.specs.Limits.{last_activity, last_template, most_rules}
use Rattle.declare.specs.Events.{latest}
use Rattle.declare.specs.Rules.{fits_template}
use Rattle.number.specs.Number.{dash}
use Rattle.declare.specs.Answers.{Answer, accepted, ◌>>=◌, ◌>>◌, require}
use Rattle.line.specs.Values.{number_field}
use Rattle.line.specs.Texts.{Records, text_of}
use Rattle.rule_text.specs.Types.{End, Rule}
use Rattle.rule_text.specs.Conditions.{condition_field}

-- "b (1 to 4294967295, or no end)"; "`-` alone means .. no end"
unfoldable pub end_field : List ℕ → Answer End
end_field field =
    cond (dash field) (accepted None)
    (do
      b ← number_field 1 latest field
      accepted (Some b))

-- "a < b"
unfoldable pub is_above : End → ℕ → Bool
is_above None a = true
is_above (Some b) a = ltb a b

-- 6 is "b not above a", 16 "equal activities under 15 or 16, or a correlation under 13 to 16"
unfoldable pub checked_rule : Rule → Answer Rule
checked_rule rule = do
  require (is_above rule.window.until rule.window.from) 6
  require (fits_template rule) 16
  accepted rule

-- "a rule line: code, activation activity, target activity, a, b, activation condition, correlation
-- condition"
abbrev pub rule_field_count : ℕ
rule_field_count = 7

unfoldable pub rule_of : List (List ℕ) → Answer Rule
rule_of fields = do
  require (eqb (length fields) rule_field_count) 1
  code ← number_field 1 last_template (get_or fields 0 [])
  activation ← number_field 1 last_activity (get_or fields 1 [])
  target ← number_field 1 last_activity (get_or fields 2 [])
  a ← number_field 0 latest (get_or fields 3 [])
  b ← end_field (get_or fields 4 [])
  condition ← condition_field false (get_or fields 5 [])
  correlation ← condition_field true (get_or fields 6 [])
  checked_rule (record { code = code; activation = activation; target = target; window = record { from = a; until = b }; condition = condition; correlation = correlation })

-- the "17th rule" is 8
unfoldable pub in_table : List Rule → Rule → Answer Rule
in_table above rule = do
  require (ltb (length above) most_rules) 8
  accepted rule

-- a line below others
unfoldable pub rule_after : List Rule → List (List ℕ) → Answer Rule
rule_after above fields = do
  rule ← rule_of fields
  in_table above rule

-- the rules of a rules text; or the number of the first refusal, and its line
unfoldable pub rules_text_of : List ℕ → Records Rule
rules_text_of text = text_of rule_after text
