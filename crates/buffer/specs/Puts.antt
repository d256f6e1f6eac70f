-- Bytes put into a buffer one after another, from a place on. What has no room is left out, and the
-- place stays at the buffer's end.
use Rattle.std.specs.Prelude.{◌≡◌, cond, List, [], ◌∷◌, ℕ, ◌+◌, ltb, length, set}
use Rattle.buffer.specs.declared.put.Output.{Output}

-- the place after one byte, in a buffer of `room` bytes
unfoldable pub next : ℕ → ℕ → ℕ
next room at = cond (ltb at room) (at + 1) at

-- the place after the text
unfoldable pub place_after : ℕ → ℕ → List ℕ → ℕ
place_after room at [] = at
place_after room at (b ∷ text) = place_after room (next room at) text

-- the buffer after the text; `set` past the end changes nothing
unfoldable pub stored : List ℕ → ℕ → List ℕ → List ℕ
stored buffer at [] = buffer
stored buffer at (b ∷ text) = stored (set buffer at b) (next (length buffer) at) text

-- putting the text at a place of the buffer `before` leaves the buffer `after`, and gives `place`
pub record Puts (text before : List ℕ) (at : ℕ) (after : List ℕ) (place : ℕ) : Type 0 where
  pub stores : after ≡ stored before at text
  pub ends : place ≡ place_after (length before) at text

-- the same of the code's output, a lent buffer with a place: it still holds the buffer that was lent
pub record Put (text : List ℕ) (before after : Output) : Type 0 where
  pub same_reference : after.bytes.ghost_name ≡ before.bytes.ghost_name
  pub puts : Puts text before.bytes.now before.at after.bytes.now after.at
