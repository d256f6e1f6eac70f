-- Lines are put one after another: those of 1 to n, then those of n + 1.
use mathlib.Core.Path.{◌≡◌, refl, sym, ap, ◌∙◌}
use mathlib.Core.List.{List, [], ◌∷◌, ◌++◌, append_assoc}
use Prim.Native.Nat.{ℕ, zero, suc, ◌+◌, ◌-◌, ◌*◌, ◌≤◌}
use native.Mathlib.Omega.{arith}
use native.Mathlib.Numerals.{add-one}
use lib.ListN.{length, get_or, take, drop, length-drop}
use lib.Seq.{length-take-le}
use Rattle.std.proofs.lemmas.List.{get_or-take}
use Rattle.std.proofs.Common.{get_or-drop}
use Rattle.declare.specs.declared.Standing.{Standing}
use Rattle.standings.specs.declared.Cell.{Cell}
use Rattle.standings.specs.declared.totals.Totals.{Totals}
use Rattle.standings.specs.Places.{idle_cell, standing_from, standing_in, with_zero}
use Rattle.standings.specs.Totals.{totals_by}
use Rattle.standings.proofs.Counts.{totals_same}
use Rattle.line.specs.Texts.{written_line, written_text}
use Rattle.buffer.specs.Puts.{Puts}
use Rattle.buffer.proofs.Puts.{puts_none, puts_as}
use Rattle.buffer.proofs.Lines.{puts_lines, puts_single}
use Rattle.printing.specs.Lines.{PrintedLine, line_fields}
use Rattle.printing.specs.Report.{lines_up_to, position_lines, event_lines, activation_lines, total_of, rule_lines}

-- the text of some lines is put
abbrev pub PutLines : List PrintedLine → List ℕ → ℕ → List ℕ → ℕ → Type 0
PutLines lines before at after place = Puts (written_text line_fields lines) before at after place

module _ (f : ℕ → List PrintedLine) where
  pub put_none : (l : List ℕ) (at : ℕ) → PutLines (lines_up_to f 0) l at l at
  unfolding lines_up_to written_text
  put_none l at = puts_none l at

  pub put_next : {l m n : List ℕ} {at p q : ℕ} (i : ℕ) → PutLines (lines_up_to f i) l at m p → PutLines (f (i + 1)) m p n q → PutLines (lines_up_to f (i + 1)) l at n q
  unfolding lines_up_to
  put_next i a b = rw (add-one i) (puts_lines line_fields (lines_up_to f i) (f (suc i)) a (rw (add-one i) at b))

-- a rule: its events, whose standings are s, then its totals
module _ (k : ℕ) (s : ℕ → Standing) where
  pub no_position : (l : List ℕ) (at : ℕ) → PutLines (event_lines k s 0) l at l at
  unfolding event_lines
  no_position l at = put_none _ l at

  pub next_position : {l m n : List ℕ} {at p q : ℕ} (i : ℕ) (x : Standing) → x ≡ s (suc i) → PutLines (event_lines k s i) l at m p → PutLines (position_lines k (i + 1) x) m p n q → PutLines (event_lines k s (i + 1)) l at n q
  unfolding event_lines
  next_position i x e a b = put_next _ i a (rw (add-one i) (rw (e, add-one i) at b))

  pub then_totals : {l m n : List ℕ} {at p q : ℕ} (i : ℕ) (t : Totals) → t ≡ totals_by s i → PutLines (event_lines k s i) l at m p → Puts (written_line line_fields (total_of k t)) m p n q → PutLines (event_lines k s i ++ (total_of k (totals_by s i) ∷ [])) l at n q
  then_totals i t e a b = puts_lines line_fields _ _ a (puts_single line_fields _ (rw e at b))

  -- position 0 before them
  pub zero_first : {l m n : List ℕ} {at p q : ℕ} (i : ℕ) → PutLines (position_lines k 0 (s 0)) l at m p → PutLines (event_lines k s i ++ (total_of k (totals_by s i) ∷ [])) m p n q → PutLines (rule_lines k s i) l at n q
  unfolding rule_lines activation_lines
  zero_first i a b = puts_as (ap (written_text line_fields) (sym (append_assoc (position_lines k 0 (s 0)) (event_lines k s i) _))) (puts_lines line_fields _ _ a b)

-- the row of rule k + 1 begins at place k · 256
pub row_lines : {l m : List ℕ} {at p : ℕ} (z : Standing) (cells : List Cell) (n k : ℕ) → PutLines (rule_lines (k + 1) (with_zero z (standing_from cells (k * 256))) n) l at m p → PutLines (rule_lines (k + 1) (with_zero z (standing_in cells (k + 1))) n) l at m p
unfolding standing_in
row_lines z cells n k a =
    let e : k * 256 ≡ (k + 1 - 1) * 256 = omega arith in
    puts_as (ap (λ (first : ℕ). written_text line_fields (rule_lines (k + 1) (with_zero z (standing_from cells first)) n)) e) a

-- ---- a rule's events by the cells of its row alone

lines_same : (f g : ℕ → List PrintedLine) (n : ℕ) → ((i : ℕ) → 1 ≤ i → i ≤ n → f i ≡ g i) → lines_up_to f n ≡ lines_up_to g n
unfolding lines_up_to
lines_same f g zero h = refl
lines_same f g (suc n) h =
    let last : f (suc n) ≡ g (suc n) = h (suc n) (omega arith) (omega arith) in
    rw (lines_same f g n (λ i a b. h i a (omega arith)), last) refl

module _ (k : ℕ) (z : Standing) (cells : List Cell) (first n : ℕ) (inside : first + n ≤ length cells) where
  abbrev pub row : List Cell
  row = take (first + n - first) (drop first cells)

  row_length : length row ≡ n
  row_length =
      let e : first + n - first ≡ n = omega arith in
      rw e (length-take-le n (drop first cells) (rw (length-drop first cells) (omega arith)))

  row_same : (i : ℕ) → i ≤ n → with_zero z (standing_from row 0) i ≡ with_zero z (standing_from cells first) i
  unfolding with_zero standing_from
  row_same zero h = refl
  row_same (suc i) h =
      let e : first + n - first ≡ n = omega arith in
      let at : 0 + (suc i - 1) ≡ i = omega arith in
      let place : first + (suc i - 1) ≡ first + i = omega arith in
      ap (λ (c : Cell). c.standing)
      (ap (λ (j : ℕ). get_or row j idle_cell) at
      ∙ ap (λ (m : ℕ). get_or (take m (drop first cells)) i idle_cell) e
      ∙ get_or-take n (drop first cells) i idle_cell (omega arith)
      ∙ get_or-drop first cells i idle_cell
      ∙ ap (λ (j : ℕ). get_or cells j idle_cell) (sym place))

  pub row_put : {l m : List ℕ} {at p : ℕ} → PutLines (event_lines k (with_zero z (standing_from row 0)) (length row) ++ (total_of k (totals_by (with_zero z (standing_from row 0)) (length row)) ∷ [])) l at m p → PutLines (event_lines k (with_zero z (standing_from cells first)) n ++ (total_of k (totals_by (with_zero z (standing_from cells first)) n) ∷ [])) l at m p
  unfolding event_lines
  row_put a =
      let lines = lines_same _ _ n (λ i some few. ap (position_lines k i) (row_same i few)) in
      let totals = totals_same _ _ n row_same in
      puts_as (rw (row_length, lines, totals) refl) a
