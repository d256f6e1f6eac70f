-- The lines that `report` prints, by their fields.
use Rattle.std.specs.Prelude.{List, [], ◌∷◌, ℕ}
use Rattle.number.specs.Written.{digits_of}

pub data PrintedLine : Type 0 where
  -- "rule, position, F or V, target"
  activation_line : ℕ → ℕ → ℕ → ℕ → PrintedLine
  -- "`total`, rule, activations, fulfilled, violated"
  total_line : ℕ → ℕ → ℕ → ℕ → PrintedLine
  -- "`refused`, `rules` or `cycle`, number, line"
  refused_line : List ℕ → ℕ → ℕ → PrintedLine

-- `F`, `V`, and `O` for an activation that is open, which a closed run does not have
abbrev pub letter_f : ℕ
letter_f = 70

abbrev pub letter_v : ℕ
letter_v = 86

abbrev pub letter_o : ℕ
letter_o = 79

-- `total`
abbrev pub total_word : List ℕ
total_word = 116 ∷ 111 ∷ 116 ∷ 97 ∷ 108 ∷ []

-- `refused`
abbrev pub refused_word : List ℕ
refused_word = 114 ∷ 101 ∷ 102 ∷ 117 ∷ 115 ∷ 101 ∷ 100 ∷ []

-- `rules`
abbrev pub rules_word : List ℕ
rules_word = 114 ∷ 117 ∷ 108 ∷ 101 ∷ 115 ∷ []

-- `cycle`
abbrev pub cycle_word : List ℕ
cycle_word = 99 ∷ 121 ∷ 99 ∷ 108 ∷ 101 ∷ []

unfoldable pub line_fields : PrintedLine → List (List ℕ)
line_fields (activation_line rule position letter target) =
    digits_of rule ∷ digits_of position ∷ (letter ∷ []) ∷ digits_of target ∷ []
line_fields (total_line rule activations fulfilled violated) =
    total_word ∷ digits_of rule ∷ digits_of activations ∷ digits_of fulfilled ∷ digits_of violated ∷ []
line_fields (refused_line word number line) = refused_word ∷ word ∷ digits_of number ∷ digits_of line ∷ []
