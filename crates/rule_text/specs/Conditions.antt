-- Conditions. "Comparisons are parted by commas"; "`-` alone means .. empty condition".
use Rattle.std.specs.Prelude.{Bool, cond, List, [], ◌∷◌, ◌++◌, ℕ, ltb, length, get_or}
use Rattle.declare.specs.Limits.{most_comparisons}
use Rattle.declare.specs.Rules.{no_comparison, no_condition}
use Rattle.number.specs.Number.{dash}
use Rattle.line.specs.Fields.{split}
use Rattle.declare.specs.Answers.{Answer, accepted, ◌>>=◌, ◌>>◌, require}
use Rattle.rule_text.specs.Types.{Comparison, Condition}
use Rattle.rule_text.specs.Comparisons.{comparison_field}

-- the byte that parts comparisons
abbrev pub comma : ℕ
comma = 44

-- "in a condition comparison by comparison" 4, 3, 17; "a fifth comparison in one condition" is 17
unfoldable pub comparisons_after : Bool → List Comparison → List (List ℕ) → Answer (List Comparison)
comparisons_after correlation above [] = accepted above
comparisons_after correlation above (field ∷ fields) = do
  c ← comparison_field correlation field
  require (ltb (length above) most_comparisons) 17
  comparisons_after correlation (above ++ (c ∷ [])) fields

-- "A rule keeps its comparisons in text order": the first four of cs; what stands in the other
-- slots document 01 leaves free, here it is no_comparison
unfoldable pub condition_of : List Comparison → Condition
condition_of cs =
    record {
      count = length cs;
      first = get_or cs 0 no_comparison;
      second = get_or cs 1 no_comparison;
      third = get_or cs 2 no_comparison;
      fourth = get_or cs 3 no_comparison;
    }

unfoldable pub comparisons_field : Bool → List ℕ → Answer Condition
comparisons_field correlation field = do
  cs ← comparisons_after correlation [] (split comma field)
  accepted (condition_of cs)

-- of an activation condition or of a correlation
unfoldable pub condition_field : Bool → List ℕ → Answer Condition
condition_field correlation field = cond (dash field) (accepted no_condition) (comparisons_field correlation field)
