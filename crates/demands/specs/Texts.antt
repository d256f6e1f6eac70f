-- What a reader of a text answers: "lines are read downward, the first refusal ends it".
--
-- `causes_of` stands for the causes of a line, given the records above it and its fields, and
-- `read` for the reader.
use Rattle.std.specs.Prelude.{◌≡◌, ◌↔◌, Bool, true, false, not, cond, List, [], ◌∷◌, ◌++◌, ℕ, ◌+◌, eqb, length}
use Rattle.declare.specs.declared.Refusal.TheVariants.{NoLineEnd}
use Rattle.declare.specs.Lists.{any}
use Rattle.number.specs.Number.{none}
use Rattle.line.specs.Fields.{LF, tab, split}
use Rattle.line.specs.Texts.{Records, All, Stop}
use Rattle.demands.specs.Causes.{Cause, cause, First, none_holds}

-- ---- lines

pub record Line : Type 0 where
  pub bytes : List ℕ
  pub ended : Bool

-- of the parts between which LF stands each but the last is a line that LF ends; the last is empty,
-- or a line that lacks LF
unfoldable pub lines_in : List (List ℕ) → List Line
lines_in [] = []
lines_in (last ∷ []) = cond (none last) [] (record { bytes = last; ended = false } ∷ [])
lines_in (part ∷ next ∷ more) = record { bytes = part; ended = true } ∷ lines_in (next ∷ more)

-- "one record a line, .. each line ended by LF"
unfoldable pub lines_of : List ℕ → List Line
lines_of text = lines_in (split LF text)

-- the text of such lines
unfoldable pub bytes_of : List Line → List ℕ
bytes_of [] = []
bytes_of (line ∷ lines) = line.bytes ++ (LF ∷ bytes_of lines)

-- ---- what is read

module _ {A : Type 0} (causes_of : List A → List (List ℕ) → List Cause) (read : List ℕ → Records A) where
  -- "last line lacks LF" is 12, and comes first
  unfoldable pub line_causes : List A → Line → List Cause
  line_causes above line = cause NoLineEnd (not line.ended) ∷ causes_of above (split tab line.bytes)

  -- a line of the text; the lines above it are accepted, and give these records
  pub record Reached (text : List ℕ) (above : List A) (line : Line) (at : ℕ) : Type 0 where
    pub upper : List Line
    pub lower : List Line
    pub lines : lines_of text ≡ upper ++ (line ∷ lower)
    pub place : at ≡ length upper + 1
    pub accepted : read (bytes_of upper) ≡ All above

  -- line `at` is reached, and n is the number of its first cause
  pub record RefusedAt (text : List ℕ) (n at : ℕ) : Type 0 where
    pub above : List A
    pub line : Line
    pub reached : Reached text above line at
    pub first : First (line_causes above line) n

  -- no line that is reached has a cause
  abbrev pub NoCause : List ℕ → Type 0
  NoCause text = (above : List A) (line : Line) (at : ℕ) → Reached text above line at → none_holds (line_causes above line) ≡ true

  pub record Reads (numbers : List ℕ) (text : List ℕ) : Type 0 where
    pub refuses : (n at : ℕ) → (read text ≡ Stop n at) ↔ RefusedAt text n at
    pub accepts : ((rs : List A) × (read text ≡ All rs)) ↔ NoCause text
    -- and never with another number
    pub numbered : (n at : ℕ) → read text ≡ Stop n at → any (eqb n) numbers ≡ true
