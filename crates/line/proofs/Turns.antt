-- The turns of a loop that reads a text line by line into slots, for every kind of record. `holds`
-- stands for what a line's fields hold, `follows` for the checks of a record below those above it.
-- At each turn the text gives what the lines left give below the records in the slots: the line in
-- hand refuses the text, or its record fills the next slot and what follows is left.
use mathlib.Core.Path.{◌≡◌, refl, ◌∙◌, ap}
use mathlib.Core.List.{List, [], ◌∷◌, ◌++◌}
use Prim.Native.Nat.{ℕ, ◌+◌, ◌<◌}
use native.Mathlib.Omega.{arith}
use mathlib.Core.Bool.{true, false}
use borrow.Author.Tests.{eqb-true, eqb-false}
use lib.Dec.{eqb}
use lib.ListN.{length, take, drop, set, replicate, length-drop}
use Rattle.declare.specs.Answers.{Answer, accepted, refused, ◌>>=◌}
use Rattle.declare.proofs.Filled.{Filled, filled_none, filled_count, filled_values, filled_more}
use Rattle.number.specs.Number.{none}
use Rattle.line.specs.Fields.{LF, index_of, following, split}
use Rattle.line.specs.Texts.{All, Stop, line_after, continued, lines_of, text_of, line_of}
use Rattle.line.proofs.Texts.{line_then, text_step}

abbrev record_of : {A : Type 0} → (List (List ℕ) → Answer A) → (List A → A → Answer A) → List A → List (List ℕ) → Answer A
record_of holds follows above fields = holds fields >>= follows above

-- what is left of a text below `count` records
pub record Turn {A : Type 0} (holds : List (List ℕ) → Answer A) (follows : List A → A → Answer A) (room : ℕ) (slot : A) (text : List ℕ) (count : ℕ) (slots : List A) (rest : List ℕ) : Type 0 where
  pub filled : Filled room slot count slots
  pub left : text_of (record_of holds follows) text ≡ lines_of (record_of holds follows) (take count slots) (split LF rest)

pub first_turn : {A : Type 0} (holds : List (List ℕ) → Answer A) (follows : List A → A → Answer A) (room : ℕ) (slot : A) (text : List ℕ) → Turn holds follows room slot text 0 (replicate room slot) text
unfolding text_of
first_turn holds follows room slot text = record { filled = filled_none room slot; left = refl }

nothing : (s : List ℕ) → length s ≡ 0 → s ≡ []
nothing [] h = refl
nothing (b ∷ s) h = absurd (omega arith)

-- each line has a byte
pub turn_less : (rest : List ℕ) (next : ℕ) → eqb (length rest) 0 ≡ false → next ≡ index_of LF rest + 1 → length (drop next rest) < length rest
turn_less rest next m n = rw (length-drop next rest) (omega (arith, eqb-false (length rest) 0 m))

module _ {A : Type 0} {holds : List (List ℕ) → Answer A} {follows : List A → A → Answer A} {room : ℕ} {slot : A} {text : List ℕ} {count : ℕ} {slots : List A} {rest : List ℕ} (t : Turn holds follows room slot text count slots rest) where
  pub turn_count : length (take count slots) ≡ count
  turn_count = filled_count room slot count slots t.filled

  pub last_turn : eqb (length rest) 0 ≡ true → text_of (record_of holds follows) text ≡ All (take count slots)
  unfolding lines_of split none
  last_turn h = t.left ∙ rw (nothing rest (eqb-true (length rest) 0 h))

  -- `line` is what the next line holds
  module _ (more : eqb (length rest) 0 ≡ false) {line : Answer A} (found : line ≡ line_of holds rest) where
    abbrev above : List A
    above = take count slots

    by_line : text_of (record_of holds follows) text ≡ continued above (line >>= follows above) (λ r. lines_of (record_of holds follows) (above ++ (r ∷ [])) (split LF (following LF rest)))
    by_line =
        t.left
        ∙ text_step (record_of holds follows) above rest (omega (arith, eqb-false (length rest) 0 more))
        ∙ rw (line_then holds (follows above) rest, found)

    pub turn_refused : {n : ℕ} → (line >>= follows above) ≡ refused n → text_of (record_of holds follows) text ≡ Stop n (count + 1)
    unfolding continued line_after
    turn_refused {n} h = by_line ∙ rw h (ap (λ (k : ℕ). Stop n (k + 1)) turn_count)

    -- and the line is `next` bytes long
    pub turn_taken : (r : A) (next : ℕ) → (line >>= follows above) ≡ accepted r → count < room → next ≡ index_of LF rest + 1 → Turn holds follows room slot text (count + 1) (set slots count r) (drop next rest)
    unfolding continued following
    turn_taken r next f l n =
        record {
          filled = filled_more room slot count slots t.filled r l;
          left = by_line ∙ rw (f, filled_values room slot count slots t.filled r l, n);
        }
