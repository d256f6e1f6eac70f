-- Small buffers at both sides of each limit: what the definitions give, and what it should be.
-- Proved as `checked` in proofs/Cases.
use Rattle.std.specs.Prelude.{◌≡◌, true, false, List, [], ◌∷◌, ℕ, Ok, Err}
use Rattle.declare.specs.declared.Refusal.TheVariants.{InvalidRecord, BufferTooShort}
use Rattle.declare.specs.Answers.{Answer, accepted, refused, answer_of}
use Rattle.buffer.specs.Puts.{place_after, stored}
use Rattle.buffer.specs.Writes.{write_of, buffer_after}

-- a text of two bytes, and buffers of one byte, two and three
abbrev pub text : List ℕ
text = 1 ∷ 2 ∷ []

abbrev pub one : List ℕ
one = 7 ∷ []

abbrev pub two : List ℕ
two = 7 ∷ 8 ∷ []

abbrev pub three : List ℕ
three = 7 ∷ 8 ∷ 9 ∷ []

-- "the lent buffer is shorter than the text .. checked after 11"; the length of the text returned
unfoldable pub answers : List (Answer ℕ)
answers =
    write_of true text one
    ∷ write_of true text two
    ∷ write_of true text three
    ∷ write_of true [] []
    ∷ write_of false text one
    ∷ write_of false text three
    ∷ []

-- "the bytes beyond it untouched"; "nothing written"
unfoldable pub left : List (List ℕ)
left =
    buffer_after text two (accepted 2)
    ∷ buffer_after text three (accepted 2)
    ∷ buffer_after [] three (accepted 0)
    ∷ buffer_after text three (refused 11)
    ∷ buffer_after text one (refused 15)
    ∷ []

-- the code's answers, by number
unfoldable pub numbered : List (Answer ℕ)
numbered =
    answer_of (Ok 2) ∷ answer_of (Err InvalidRecord) ∷ answer_of (Err BufferTooShort) ∷ []

-- what has no room is left out, and the place stays at the end
unfoldable pub buffers : List (List ℕ)
buffers =
    stored three 0 text ∷ stored three 1 text ∷ stored three 2 text ∷ stored three 3 text ∷ stored three 5 text ∷ stored three 1 [] ∷ []

unfoldable pub places : List ℕ
places =
    place_after 3 0 text ∷ place_after 3 1 text ∷ place_after 3 2 text ∷ place_after 3 3 text ∷ place_after 3 5 text ∷ place_after 3 1 [] ∷ []

pub record Checked : Type 0 where
  pub of_answers : answers ≡ refused 15 ∷ accepted 2 ∷ accepted 2 ∷ accepted 0 ∷ refused 11 ∷ refused 11 ∷ []
  pub of_left : left ≡ (1 ∷ 2 ∷ []) ∷ (1 ∷ 2 ∷ 9 ∷ []) ∷ three ∷ three ∷ one ∷ []
  pub of_numbered : numbered ≡ accepted 2 ∷ refused 11 ∷ refused 15 ∷ []
  pub of_buffers : buffers ≡ (1 ∷ 2 ∷ 9 ∷ []) ∷ (7 ∷ 1 ∷ 2 ∷ []) ∷ (7 ∷ 8 ∷ 1 ∷ []) ∷ three ∷ three ∷ three ∷ []
  pub of_places : places ≡ 2 ∷ 3 ∷ 3 ∷ 3 ∷ 5 ∷ 1 ∷ []
