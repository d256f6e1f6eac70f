-- "Written as the texts of document 01 into a lent buffer, with the length returned and the bytes
-- beyond it untouched"; "15, the lent buffer is shorter than the text, nothing written; checked
-- after 11".
use Rattle.std.specs.Prelude.{◌≡◌, Bool, List, ◌++◌, ℕ, leb, length, drop, Result}
use Rattle.declare.specs.declared.Refusal.{Refusal}
use Rattle.declare.specs.Answers.{Answer, accepted, refused, ◌>>◌, require, answer_of}

-- the length of the text of a record that is valid or not
unfoldable pub write_of : Bool → List ℕ → List ℕ → Answer ℕ
write_of valid text buffer = do
  require valid 11
  require (leb (length text) (length buffer)) 15
  accepted (length text)

-- what the buffer holds after that answer
unfoldable pub buffer_after : List ℕ → List ℕ → Answer ℕ → List ℕ
buffer_after text buffer (accepted n) = text ++ drop n buffer
buffer_after text buffer (refused n) = buffer

-- a call that writes the text leads from the buffer `before` to `after`, with this answer
pub record Writes (valid : Bool) (text before after : List ℕ) (answer : Result ℕ Refusal) : Type 0 where
  pub answers : answer_of answer ≡ write_of valid text before
  pub leaves : after ≡ buffer_after text before (write_of valid text before)
