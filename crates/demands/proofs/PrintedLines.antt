-- A line of the printed bytes is a line of the list that was written, because its fields have
-- neither tab nor LF and tell it from every other line.
use Rattle.std.specs.Prelude.{Ok}
use mathlib.Core.Path.{◌≡◌, refl, sym, ap, ◌∙◌}
use mathlib.Core.Bool.{Bool, true, false, true≢false}
use mathlib.Core.List.{List, [], ◌∷◌, map}
use Prim.Native.Nat.{ℕ, zero, suc, ◌+◌, ◌≤◌}
use native.Mathlib.Omega.{arith}
use borrow.Author.Tests.{ltb-true, ltb-false}
use lib.Dec.{ltb}
use lib.ListN.{length, get_or, length-map}
use Rattle.number.specs.Number.{natural_of, none, digit, digits}
use Rattle.number.specs.Written.{digits_of}
use Rattle.number.proofs.Written.{written_digits, read_natural}
use Rattle.line.specs.Fields.{LF, tab, split, joined}
use Rattle.line.specs.Texts.{written_text}
use Rattle.line.proofs.Fields.{parts}
use Rattle.line.proofs.Texts.{Parted, split_fields, split_line}
use Rattle.printing.specs.Lines.{PrintedLine, activation_line, total_line, refused_line, refused_word, line_fields}
use Rattle.demands.specs.Texts.{Line, lines_in, lines_of}
use Rattle.demands.specs.Printed.{no_line, LineIs}
use Rattle.demands.proofs.Places.{At, here, there, at_is, at_some, at_map}

-- ---- the lines of a written text

module _ {A : Type 0} (fields_of : A → List (List ℕ)) where
  abbrev line_of : A → Line
  line_of r = record { bytes = joined tab (fields_of r); ended = true }

  first_line : (bytes s : List ℕ) → lines_in (bytes ∷ split LF s) ≡ record { bytes = bytes; ended = true } ∷ lines_in (split LF s)
  unfolding lines_in
  first_line bytes s = rw (parts LF s)

  lines_written : (rs : List A) → ((p : ℕ) (r : A) → At rs p r → Parted fields_of r) → lines_of (written_text fields_of rs) ≡ map line_of rs
  unfolding lines_of lines_in written_text split none
  lines_written [] h = refl
  lines_written (r ∷ rs) h =
      rw (split_line fields_of r (written_text fields_of rs) (h 0 r here).ends, first_line (joined tab (fields_of r)) (written_text fields_of rs))
      (ap (λ (ls : List Line). line_of r ∷ ls) (lines_written rs (λ p q a. h (suc p) q (there a))))

-- ---- fields tell a line

digits_same : (m n : ℕ) → digits_of m ≡ digits_of n → m ≡ n
digits_same m n e =
    let a = read_natural 0 (m + n) m (omega arith) (omega arith) in
    let b = read_natural 0 (m + n) n (omega arith) (omega arith) in
    let c : Ok m ≡ Ok n = sym a ∙ ap (natural_of 0 (m + n)) e ∙ b in
    cc

not_refused : (n : ℕ) → digits_of n ≡ refused_word → ⊥
unfolding digits digit
not_refused n e = true≢false (sym (written_digits n) ∙ ap digits e)

pub fields_tell : (l m : PrintedLine) → line_fields l ≡ line_fields m → l ≡ m
unfolding line_fields
fields_tell (activation_line k i a j) (activation_line l h b g) e =
    let p = digits_same k l (cc) in
    let q = digits_same i h (cc) in
    let r = digits_same j g (cc) in
    cc
fields_tell (total_line k a f v) (total_line l b g w) e =
    let p = digits_same k l (cc) in
    let q = digits_same a b (cc) in
    let r = digits_same f g (cc) in
    let s = digits_same v w (cc) in
    cc
fields_tell (refused_line u n i) (refused_line w m j) e =
    let p = digits_same n m (cc) in
    let q = digits_same i j (cc) in
    cc
fields_tell (activation_line k i a j) (total_line l b g w) e = absurd (let z : ◌≡◌ {A = ℕ} 0 1 = cc in omega arith)
fields_tell (activation_line k i a j) (refused_line w m h) e = absurd (not_refused k (cc))
fields_tell (total_line k a f v) (activation_line l h b g) e = absurd (let z : ◌≡◌ {A = ℕ} 0 1 = cc in omega arith)
fields_tell (total_line k a f v) (refused_line w m h) e = absurd (let z : ◌≡◌ {A = ℕ} 0 1 = cc in omega arith)
fields_tell (refused_line u n i) (activation_line l h b g) e = absurd (not_refused l (cc))
fields_tell (refused_line u n i) (total_line l b g w) e = absurd (let z : ◌≡◌ {A = ℕ} 0 1 = cc in omega arith)

-- ---- a line of the bytes, and of the list

module _ (ls : List PrintedLine) (parted : (p : ℕ) (l : PrintedLine) → At ls p l → Parted line_fields l) where
  lines : lines_of (written_text line_fields ls) ≡ map (line_of line_fields) ls
  lines = lines_written line_fields ls parted

  line_at : (p : ℕ) (l : PrintedLine) → At ls p l → get_or (lines_of (written_text line_fields ls)) p no_line ≡ line_of line_fields l
  line_at p l a = ap (λ (xs : List Line). get_or xs p no_line) lines ∙ at_is no_line (at_map (line_of line_fields) a)

  pub line_is : (p : ℕ) (l : PrintedLine) → At ls p l → LineIs (written_text line_fields ls) p (line_fields l)
  line_is p l a =
      let e = line_at p l a in
      let q = parted p l a in
      record {
        ended = ap (λ (x : Line). x.ended) e;
        parted = ap (λ (x : Line). split tab x.bytes) e ∙ split_fields line_fields (line_fields l) q.some q.tabs;
      }

  -- as many lines as were written
  pub line_count : length (lines_of (written_text line_fields ls)) ≡ length ls
  line_count = ap length lines ∙ length-map ls (line_of line_fields)

  past_end : (xs : List Line) (p : ℕ) → length xs ≤ p → (get_or xs p no_line).ended ≡ false
  past_end [] p h = refl
  past_end (x ∷ xs) zero h = absurd (omega arith)
  past_end (x ∷ xs) (suc p) h = past_end xs p (omega arith)

  pub is_line : (p : ℕ) (l : PrintedLine) → LineIs (written_text line_fields ls) p (line_fields l) → At ls p l
  is_line p l w = go (ltb p (length ls)) refl
    where
      go : (t : Bool) → ltb p (length ls) ≡ t → At ls p l
      go true e =
          let x = at_some ls p (ltb-true p (length ls) e) in
          let same = fields_tell x.0 l (sym (line_is p x.0 x.1).parted ∙ w.parted) in
          rw same at x.1
      go false e = absurd (true≢false (sym w.ended ∙ past_end (lines_of (written_text line_fields ls)) p (rw line_count (ltb-false p (length ls) e))))
