-- How many bytes are printed: of a line at most 13 for an activation, 21 for a total; of a valid
-- run, with position 0, at most 53792.
use mathlib.Core.Path.{◌≡◌, refl, sym, ap, ◌∙◌}
use mathlib.Core.Bool.{Bool, true, false}
use mathlib.Core.List.{List, [], ◌∷◌, ◌++◌}
use Prim.Native.Nat.{ℕ, zero, suc, ◌+◌, ◌*◌, ◌^◌, ◌≤◌, ◌<◌, zero-le}
use native.Mathlib.Nat.{mul-suc}
use native.Mathlib.Omega.{arith}
use borrow.Author.Tests.{leb-true}
use Rattle.declare.specs.Lists.{all}
use Rattle.declare.specs.declared.Rule.{Rule}
use Rattle.declare.specs.declared.Standing.{Standing}
use Rattle.declare.specs.declared.Standing.TheVariants.{Idle, Open, Fulfilled, Violated}
use Rattle.declare.specs.Overall.{is_overall}
use Rattle.declare.specs.Rules.{rule_at}
use Rattle.declare.specs.Standings.{is_idle}
use Rattle.standings.proofs.Counts.{totals_small}
use Rattle.run.specs.declared.Run.{Run}
use Rattle.run.specs.Records.{standing_at, valid_standing, valid_run}
use Rattle.run.proofs.Bounds.{valid_parts}
use Rattle.run.proofs.Places.{overall_rule, zero_other, valid_here, standings_each}
use Rattle.run.proofs.Validity.{idle_valid, at_valid, here_judged, here_idle, here_event, not_idle}
use Rattle.line.specs.Fields.{is_byte}
use Rattle.line.specs.Texts.{written_line, written_text}
use Rattle.line.proofs.Texts.{written_append, written_one}
use Rattle.line.proofs.Lengths.{Within, within_none, within_more, within_append, within_most, number_within, no_more, ◌and◌, line_within}
use Rattle.notebook.specs.declared.Text.{Text}
use Rattle.notebook.specs.declared.Text.TheVariants.{Rules, Cycle}
use Rattle.printing.specs.Lines.{PrintedLine, activation_line, total_line, refused_line, total_word, refused_word, line_fields}
use Rattle.printing.specs.Report.{position_lines, lines_up_to, event_lines, activation_lines, total_of, rule_lines, report_lines, report_of, word_of}
use Rattle.printing.specs.Printing.{printed_bytes}

-- ---- lines

activation_within : (k i letter j : ℕ) → k < 100 → i < 1000 → is_byte letter ≡ true → j < 1000 → Within 13 (written_line line_fields (activation_line k i letter j))
unfolding line_fields
activation_within k i letter j a b c d =
    line_within line_fields (2 ∷ 3 ∷ 1 ∷ 3 ∷ []) (activation_line k i letter j)
    (number_within 1 k (omega arith) and number_within 2 i (omega arith) and within_more letter c (within_none 0) and number_within 2 j (omega arith) and no_more)

total_within : (k a f v : ℕ) → k < 100 → a < 1000 → f < 1000 → v < 1000 → Within 21 (written_line line_fields (total_line k a f v))
unfolding line_fields is_byte all
total_within k a f v h l m n =
    line_within line_fields (5 ∷ 2 ∷ 3 ∷ 3 ∷ 3 ∷ []) (total_line k a f v)
    (word and number_within 1 k (omega arith) and number_within 2 a (omega arith) and number_within 2 f (omega arith) and number_within 2 v (omega arith) and no_more)
  where
    word : Within 5 total_word
    word = record { bytes = refl; most = omega arith }

word_within : (text : Text) → Within 5 (word_of text)
unfolding word_of is_byte all
word_within Rules = record { bytes = refl; most = omega arith }
word_within Cycle = record { bytes = refl; most = omega arith }

pub refused_within : (text : Text) (number line : ℕ) → number < 1000 → line < 10 ^ 10 → Within 29 (written_line line_fields (refused_line (word_of text) number line))
unfolding line_fields is_byte all
refused_within text number line h l =
    line_within line_fields (7 ∷ 5 ∷ 3 ∷ 10 ∷ []) (refused_line (word_of text) number line)
    (word and word_within text and number_within 2 number (omega arith) and number_within 9 line (omega arith) and no_more)
  where
    word : Within 7 refused_word
    word = record { bytes = refl; most = omega arith }

-- ---- a rule

-- the line of a position, of a standing that a valid record may have there
position_within : (over : Bool) (n k i : ℕ) (s : Standing) → n < 1000 → k < 100 → i < 1000 → valid_standing over n s ≡ true → Within 13 (written_text line_fields (position_lines k i s))
unfolding position_lines written_text is_byte
position_within over n k i Idle h a b v = within_none 13
position_within over n k i Open h a b v = rw (written_one line_fields _) (activation_within k i _ 0 a b refl (omega arith))
position_within over n k i (Fulfilled j) h a b v =
    rw (written_one line_fields _) (activation_within k i _ j a b refl (omega (arith, leb-true j n v)))
position_within over n k i (Violated j) h a b v =
    rw (written_one line_fields _) (activation_within k i _ j a b refl (omega (arith, leb-true j n v)))

-- lines of 1 to n, of at most so many bytes each
up_to_within : (most : ℕ) (f : ℕ → List PrintedLine) (n : ℕ) → ((i : ℕ) → 1 ≤ i → i ≤ n → Within most (written_text line_fields (f i))) → Within (most * n) (written_text line_fields (lines_up_to f n))
unfolding lines_up_to written_text
up_to_within most f zero h = within_none _
up_to_within most f (suc n) h =
    rw (written_append line_fields (lines_up_to f n) (f (suc n)))
    (within_most (more most n) (within_append (up_to_within most f n (λ i a b. h i a (omega arith))) (h (suc n) (omega arith) (omega arith))))
  where
    more : (m n : ℕ) → m * n + m ≤ m * suc n
    more m n = rw (mul-suc m n) (omega arith)

-- a line, and those of 1 to n
rule_within : (over : Bool) (n k : ℕ) → n < 998 → k < 100 → (s : ℕ → Standing) → ((i : ℕ) → i ≤ n → valid_standing over n (s i) ≡ true) → Within (13 + 13 * n + 21) (written_text line_fields (rule_lines k s n))
unfolding rule_lines activation_lines event_lines total_of
rule_within over n k few rule s f =
    let t = totals_small s n refl in
    rw (written_append line_fields (position_lines k 0 (s 0) ++ lines_up_to (λ i. position_lines k i (s i)) n) _, written_append line_fields (position_lines k 0 (s 0)) (lines_up_to (λ i. position_lines k i (s i)) n), written_one line_fields _)
    (within_append (within_append (position_within over n k 0 (s 0) (omega arith) rule (omega arith) (f 0 zero-le)) (up_to_within 13 _ n (λ i a b. position_within over n k i (s i) (omega arith) rule (omega arith) (f i b))))
    (total_within k _ _ _ rule (omega (arith, t.activations)) (omega (arith, t.fulfilled)) (omega (arith, t.violated))))

-- ---- a run

-- what may stand at a position of a valid record is valid
here_valid : (rule : Rule) (over : Bool) (n i : ℕ) (s : Standing) → valid_here over rule n i s ≡ true → (i ≡ 0 → is_overall rule.code ≡ false → is_idle s ≡ true) → valid_standing over n s ≡ true
here_valid rule over n zero s v other = go (is_overall rule.code) refl
  where
    go : (o : Bool) → is_overall rule.code ≡ o → valid_standing over n s ≡ true
    go true q = (not_idle over n s (here_judged rule over n s q v)).1
    go false q = idle_valid over n s (other refl q)
here_valid rule over n (suc i) s v other = go (is_overall rule.code) refl
  where
    go : (o : Bool) → is_overall rule.code ≡ o → valid_standing over n s ≡ true
    go true q = idle_valid over n s (here_idle rule over n i s q v)
    go false q = at_valid over n (suc i) s (sym (here_event rule over n i s q) ∙ v)

module _ (r : Run) (valid : valid_run r ≡ true) where
  may_stand : (k i : ℕ) → 1 ≤ k → k ≤ r.table.count → i ≤ r.count → valid_standing r.closed r.count (standing_at r k i) ≡ true
  may_stand k i a b d =
      let p = valid_parts r valid in
      here_valid (rule_at r.table k) r.closed r.count i (standing_at r k i) (standings_each r.closed r p.standings p.overall k i a b (omega (arith, p.events_fit)))
      (λ z o. ap is_idle (ap (standing_at r k) z ∙ zero_other r k (overall_rule r.table k b ∙ o)))

  pub report_within : Within printed_bytes (report_of r)
  unfolding report_of report_lines
  report_within =
      let p = valid_parts r valid in
      within_most (omega (arith, p.rules_fit))
      (up_to_within 3362 _ r.table.count (λ k a b. within_most (omega (arith, p.events_fit)) (rule_within r.closed r.count k (omega (arith, p.events_fit)) (omega (arith, p.rules_fit)) (standing_at r k) (λ i d. may_stand k i a b d))))
