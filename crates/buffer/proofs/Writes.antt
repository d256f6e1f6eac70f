-- Laws of `Writes`: of a record that is not valid, of a buffer that is too short, and of one that
-- has room; then what follows from a call's answer.
use mathlib.Core.Path.{◌≡◌, refl, sym, ap, ◌∙◌}
use mathlib.Core.Bool.{Bool, true, false}
use mathlib.Core.List.{List, ◌++◌}
use Prim.Native.Nat.{ℕ, ◌≤◌, ◌<◌}
use native.Mathlib.Omega.{arith}
use borrow.Author.Tests.{le-leb, lt-leb}
use lib.Dec.{leb}
use lib.ListN.{length, take, drop}
use lib.Seq.{take_at}
use Rattle.std.specs.Prelude.{Result, Ok, Err}
use Rattle.declare.specs.declared.Refusal.{Refusal}
use Rattle.declare.specs.declared.Refusal.TheVariants.{InvalidRecord, BufferTooShort}
use Rattle.declare.specs.Refusals.{number_of}
use Rattle.declare.specs.Answers.{accepted, refused, ◌>>◌, require, answer_of}
use Rattle.declare.proofs.Answers.{no_of, of_of, required, passed}
use Rattle.buffer.specs.Puts.{Puts}
use Rattle.buffer.specs.Writes.{write_of, buffer_after, Writes}
use Rattle.buffer.proofs.Puts.{puts_taken}

pub refuses : {valid : Bool} {text before : List ℕ} → valid ≡ false → Writes valid text before before (Err InvalidRecord)
unfolding write_of buffer_after answer_of number_of require ◌>>◌
refuses v = rw v (record { answers = refl; leaves = refl })

module _ (text before : List ℕ) where
  pub too_short : length before < length text → Writes true text before before (Err BufferTooShort)
  unfolding write_of buffer_after answer_of number_of require ◌>>◌
  too_short h =
      let e : write_of true text before ≡ refused 15 = simp (lt-leb (length text) (length before) h) in
      record { answers = sym e; leaves = ap (buffer_after text before) (sym e) }

  pub has_room : (n : ℕ) (after : List ℕ) → length text ≤ length before → n ≡ length text → after ≡ text ++ drop (length text) before → Writes true text before after (Ok n)
  unfolding write_of buffer_after answer_of require ◌>>◌
  has_room n after h l s =
      let e : write_of true text before ≡ accepted (length text) = simp (le-leb (length text) (length before) h) in
      record { answers = ap accepted l ∙ sym e; leaves = s ∙ ap (buffer_after text before) (sym e) }

-- a text that was put into another buffer, with room for it, is handed on
pub hands_on : {valid : Bool} {text l m before after : List ℕ} {p : ℕ} {answer : Result ℕ Refusal} → valid ≡ true → length text ≤ length l → Puts text l 0 m p → Writes true (take p m) before after answer → Writes valid text before after answer
hands_on v room a w = rw v (rw (puts_taken room a) at w)

-- ---- what a call has written

-- a length is returned: the record is valid, and so many bytes are its text
pub written : (valid : Bool) (text before after : List ℕ) (n : ℕ) → Writes valid text before after (Ok n) → (valid ≡ true) × (take n after ≡ text)
unfolding write_of answer_of buffer_after
written valid text before after n w =
    let v = required valid 11 _ n (sym w.answers) in
    let room = required (leb (length text) (length before)) 15 _ n v.1 in
    let left : after ≡ text ++ drop n before = w.leaves ∙ ap (buffer_after text before) (sym w.answers) in
    (v.0, ap (take n) left ∙ take_at text (drop n before) n (of_of room.1))

returned_length : (answer : Result ℕ Refusal) (n : ℕ) → answer_of answer ≡ accepted n → answer ≡ Ok n
unfolding answer_of
returned_length (Ok m) n e = ap Ok (of_of e)
returned_length (Err cause) n e = absurd (no_of e)

-- the text of a valid record goes into every buffer that has room for it
pub comes_out : (valid : Bool) (text before after : List ℕ) (answer : Result ℕ Refusal) → valid ≡ true → length text ≤ length before → Writes valid text before after answer → (answer ≡ Ok (length text)) × (after ≡ text ++ drop (length text) before)
unfolding write_of buffer_after
comes_out valid text before after answer v room w =
    let e : write_of valid text before ≡ accepted (length text) = passed 11 _ v ∙ passed 15 _ (le-leb (length text) (length before) room) in
    (returned_length answer (length text) (w.answers ∙ e), w.leaves ∙ ap (buffer_after text before) e)

-- a buffer that has room is not too short
pub never_short : (valid : Bool) (text buffer : List ℕ) → (valid ≡ true → length text ≤ length buffer) → write_of valid text buffer ≡ refused 15 → ⊥
unfolding write_of require ◌>>◌
never_short false text buffer room e =
    let z : ◌≡◌ {A = ℕ} 11 15 = cc in
    omega arith
never_short true text buffer room e = no_of (sym (rw (le-leb (length text) (length buffer) (room refl)) at e))
