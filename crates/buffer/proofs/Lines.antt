-- A line is put field by field, each with the byte that ends it; a text line by line.
use mathlib.Core.Path.{sym, ◌∙◌}
use mathlib.Core.List.{List, [], ◌∷◌, ◌++◌}
use Prim.Native.Nat.{ℕ, ◌+◌, ◌<◌}
use lib.ListN.{length, take, get_or}
use Rattle.line.specs.Texts.{written_line, written_text}
use Rattle.line.proofs.Texts.{ended, line_ended, written_append, written_one, written_taken}
use Rattle.buffer.specs.declared.put.Output.{Output}
use Rattle.buffer.specs.Puts.{Puts, Put}
use Rattle.buffer.proofs.Puts.{puts_then, puts_as}

module _ {A : Type 0} (fields_of : A → List (List ℕ)) where
  pub puts_line : {l m : List ℕ} {at p : ℕ} (r : A) → Puts (ended (fields_of r)) l at m p → Puts (written_line fields_of r) l at m p
  unfolding written_line
  puts_line r a = puts_as (sym (line_ended (fields_of r))) a

  -- the lines of the first k records, and one more
  pub puts_more : {l m n : List ℕ} {at p q : ℕ} (rs : List A) (k : ℕ) (none : A) → k < length rs → Puts (written_text fields_of (take k rs)) l at m p → Puts (written_line fields_of (get_or rs k none)) m p n q → Puts (written_text fields_of (take (k + 1) rs)) l at n q
  puts_more rs k none h a b = puts_as (sym (written_taken fields_of rs k none h)) (puts_then a b)

  -- lines after others
  pub puts_lines : {l m n : List ℕ} {at p q : ℕ} (xs ys : List A) → Puts (written_text fields_of xs) l at m p → Puts (written_text fields_of ys) m p n q → Puts (written_text fields_of (xs ++ ys)) l at n q
  puts_lines xs ys a b = puts_as (sym (written_append fields_of xs ys)) (puts_then a b)

  pub puts_single : {l m : List ℕ} {at p : ℕ} (r : A) → Puts (written_line fields_of r) l at m p → Puts (written_text fields_of (r ∷ [])) l at m p
  puts_single r a = puts_as (sym (written_one fields_of r)) a

  -- the same of an output
  pub put_line : {before after : Output} (r : A) → Put (ended (fields_of r)) before after → Put (written_line fields_of r) before after
  put_line r a = record { same_reference = a.same_reference; puts = puts_line r a.puts }

  pub put_more : {before between after : Output} (rs : List A) (k : ℕ) (none : A) → k < length rs → Put (written_text fields_of (take k rs)) before between → Put (written_line fields_of (get_or rs k none)) between after → Put (written_text fields_of (take (k + 1) rs)) before after
  put_more rs k none h a b =
      record { same_reference = b.same_reference ∙ a.same_reference; puts = puts_more rs k none h a.puts b.puts }

  pub put_single : {before after : Output} (r : A) → Put (written_line fields_of r) before after → Put (written_text fields_of (r ∷ [])) before after
  put_single r a = record { same_reference = a.same_reference; puts = puts_single r a.puts }
