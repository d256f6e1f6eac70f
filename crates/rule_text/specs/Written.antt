-- Rules written as a rules text, and what is proved of writing and reading.
use Rattle.std.specs.Prelude.{◌≡◌, true, List, [], ◌∷◌, ◌++◌, map, ℕ, ◌*◌, ◌≤◌, length, None, Some}
use Rattle.declare.specs.Lists.{all}
use Rattle.declare.specs.Limits.{most_rules}
use Rattle.declare.specs.Conditions.{comparisons_of}
use Rattle.declare.specs.Rules.{rules_of, valid_rule}
use Rattle.declare.specs.Slots.{table_of}
use Rattle.number.specs.Number.{hyphen}
use Rattle.number.specs.Written.{digits_of, integer_text}
use Rattle.line.specs.Fields.{is_byte, joined}
use Rattle.line.specs.Texts.{All, written_text}
use Rattle.rule_text.specs.Types.{Reference, Constant, Activation, Comparison, Condition, End, Rule, Table}
use Rattle.rule_text.specs.Comparisons.{colon, at_sign, operator_byte}
use Rattle.rule_text.specs.Conditions.{comma, condition_of}
use Rattle.rule_text.specs.Rules.{rules_text_of}

-- k; or `@`, a digit, `:`, k
unfoldable pub reference_text : Reference → List ℕ
reference_text (Constant k) = integer_text k
reference_text (Activation g k) = at_sign ∷ (digits_of g ++ (colon ∷ integer_text k))

unfoldable pub comparison_text : Comparison → List ℕ
comparison_text c = digits_of c.reading ++ (operator_byte c.operator ∷ reference_text c.reference)

-- `-` for no comparisons
unfoldable pub comparisons_text : List Comparison → List ℕ
comparisons_text [] = hyphen ∷ []
comparisons_text (c ∷ cs) = joined comma (map comparison_text (c ∷ cs))

unfoldable pub condition_text : Condition → List ℕ
condition_text c = comparisons_text (comparisons_of c)

-- `-` for no end
unfoldable pub end_text : End → List ℕ
end_text None = hyphen ∷ []
end_text (Some b) = digits_of b

unfoldable pub rule_fields : Rule → List (List ℕ)
rule_fields r =
    digits_of r.code
    ∷ digits_of r.activation
    ∷ digits_of r.target
    ∷ digits_of r.window.from
    ∷ end_text r.window.until
    ∷ condition_text r.condition
    ∷ condition_text r.correlation
    ∷ []

unfoldable pub rules_text : List Rule → List ℕ
rules_text rs = written_text rule_fields rs

-- ---- slots past a count: a text says nothing of them, and what was read has no_comparison and
-- no_rule there

unfoldable pub canonical_condition : Condition → Condition
canonical_condition c = condition_of (comparisons_of c)

-- the same rule, with no_comparison in the slots that are not in use
unfoldable pub canonical : Rule → Rule
canonical r =
    record {
      code = r.code;
      activation = r.activation;
      target = r.target;
      window = r.window;
      condition = canonical_condition r.condition;
      correlation = canonical_condition r.correlation;
    }

-- the same rules, with no_comparison and no_rule in the slots that are not in use: the table that is
-- read from the text of t's rules
abbrev pub rewritten : Table → Table
rewritten t = table_of (map canonical (rules_of t))

-- ---- both ways

-- rules that a valid table can hold
pub record ValidRules (rs : List Rule) : Type 0 where
  pub most : length rs ≤ most_rules
  pub valid : all valid_rule rs ≡ true

-- proved in proofs/RoundTrips
pub record RoundTrips : Type 0 where
  -- an accepted text gives such rules, with no_comparison in the slots that are not in use
  pub valid : (text : List ℕ) (rs : List Rule) → rules_text_of text ≡ All rs → ValidRules rs × (map canonical rs ≡ rs)
  -- "a written text reads back as the same records": equal in the slots that are in use
  pub read : (rs : List Rule) → ValidRules rs → rules_text_of (rules_text rs) ≡ All (map canonical rs)
  -- "an accepted text comes out again byte for byte"
  pub again : (text : List ℕ) (rs : List Rule) → rules_text_of text ≡ All rs → rules_text rs ≡ text

-- proved in proofs/Lengths
pub record WrittenBytes : Type 0 where
  pub bytes : (rs : List Rule) → ValidRules rs → all is_byte (rules_text rs) ≡ true
  -- a line: a code and two activities of at most 2 digits, a and b of at most 10, an activation
  -- condition of at most four `1=k` of 13 bytes and three commas, a correlation of at most four
  -- `1=@1:k` of 16 bytes and three commas, six tabs and LF; so a table has at most 2480 bytes
  pub most : (rs : List Rule) → ValidRules rs → length (rules_text rs) ≤ 155 * length rs
