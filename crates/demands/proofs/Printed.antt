-- What is printed is the list of the notebook's run (Reports), whose standings are the verdicts, or
-- the one refused line; and a line of the bytes is one of that list (PrintedLines).
use mathlib.Core.Path.{◌≡◌, refl, sym, ap, subst, ◌∙◌}
use mathlib.Core.Logic.{◌⊎◌, inl, inr}
use mathlib.Core.Bool.{Bool, true, false, true≢false}
use mathlib.Core.List.{List, [], ◌∷◌}
use Prim.Native.Nat.{ℕ, ◌≤◌, ◌<◌}
use native.Mathlib.Omega.{arith}
use borrow.Author.Tests.{ne_eqb, eqb-true, leb-true, ltb-true, ltb-false}
use lib.Dec.{eqb, leb, ltb}
use lib.ListN.{length}
use Rattle.declare.specs.declared.Event.{Event}
use Rattle.declare.specs.declared.Rule.{Rule}
use Rattle.declare.specs.declared.Table.{Table}
use Rattle.declare.specs.declared.Standing.{Standing}
use Rattle.declare.specs.declared.Standing.TheVariants.{Idle, Open, Fulfilled, Violated}
use Rattle.declare.specs.Lists.{all, any}
use Rattle.declare.specs.Slots.{table_of}
use Rattle.declare.proofs.Booleans.{and₂}
use Rattle.run.specs.declared.Run.{Run}
use Rattle.run.specs.Records.{totals_in, valid_run}
use Rattle.run.specs.Words.{Finishes}
use Rattle.run.proofs.Bounds.{valid_parts}
use Rattle.run.proofs.Words.{words as run-words}
use Rattle.line.specs.Fields.{LF, tab}
use Rattle.line.specs.Texts.{Records, All, Stop, is_all, written_text}
use Rattle.cycle_text.specs.Cycle.{cycle_text_of}
use Rattle.rule_text.specs.Rules.{rules_text_of}
use Rattle.line.proofs.Joined.{lacks}
use Rattle.line.proofs.Values.{lacks_number}
use Rattle.line.proofs.Texts.{all_all, written_one, Parted}
use Rattle.notebook.specs.declared.Text.{Text}
use Rattle.notebook.specs.declared.Text.TheVariants.{Rules, Cycle}
use Rattle.notebook.specs.Notebook.{Reply, read_as, not_read, finished_of, notebook_of}
use Rattle.notebook.proofs.Read.{ReadFrom, read_from, read_valid, not_both, refused_at}
use Rattle.notebook.proofs.Replies.{accepted_texts_lem}
use Rattle.buffer.proofs.Writes.{written, never_short}
use Rattle.printing.specs.Lines.{PrintedLine, activation_line, total_line, refused_line, total_word, refused_word, line_fields}
use Rattle.printing.specs.Report.{position_lines, total_of, report_lines, report_of, word_of, reply_lines, printed_lines, printed_of}
use Rattle.printing.specs.Printing.{printed_bytes}
use Rattle.printing.proofs.Room.{refused_within, report_within}
use Rattle.demands.specs.Printed.{VerdictLine, TotalLine, OfBoth, Right, Before, PrintedRight, Printed}
use Rattle.demands.proofs.Places.{At, here, at_below, at_some, at_single, same_first}
use Rattle.demands.proofs.Reports.{PositionLine, RunLine, report_line, line_report, rank, report_rises}
use Rattle.demands.proofs.RightLines.{RightOf, run_right, right_run}
use Rattle.demands.proofs.PrintedLines.{line_is, line_count, is_line}
use Rattle.demands.proofs.Demand1.{demand1}

-- ---- a line that is printed

-- its position is that of an event, and no field has tab or LF
abbrev Plain : PrintedLine → Type 0
Plain (activation_line k i letter j) = (i ≤ 256) × (11 ≤ letter)
Plain (total_line k a f v) = Unit {0}
Plain (refused_line word n line) = (text : Text) × (word ≡ word_of text)

lacks_word : (b : ℕ) → b < 97 → (text : Text) → lacks b (word_of text) ≡ true
unfolding word_of lacks
lacks_word b h Rules = rw (ne_eqb 114 b (λ e. omega arith), ne_eqb 117 b (λ e. omega arith), ne_eqb 108 b (λ e. omega arith), ne_eqb 101 b (λ e. omega arith), ne_eqb 115 b (λ e. omega arith))
lacks_word b h Cycle = rw (ne_eqb 99 b (λ e. omega arith), ne_eqb 121 b (λ e. omega arith), ne_eqb 108 b (λ e. omega arith), ne_eqb 101 b (λ e. omega arith))

parted : (l : PrintedLine) → Plain l → Parted line_fields l
unfolding line_fields all lacks
parted (activation_line k i letter j) p = record { some = omega arith; tabs = fields tab (omega arith); ends = fields LF (omega arith) }
  where
    fields : (b : ℕ) → b < 11 → all (lacks b) (line_fields (activation_line k i letter j)) ≡ true
    fields b h =
        let low : b < 45 = omega arith in
        rw (lacks_number b k low, lacks_number b i low, ne_eqb letter b (λ e. omega (arith, p.1)), lacks_number b j low)
parted (total_line k a f v) p = record { some = omega arith; tabs = fields tab refl (omega arith); ends = fields LF refl (omega arith) }
  where
    fields : (b : ℕ) → lacks b total_word ≡ true → b < 45 → all (lacks b) (line_fields (total_line k a f v)) ≡ true
    fields b h low = rw (h, lacks_number b k low, lacks_number b a low, lacks_number b f low, lacks_number b v low)
parted (refused_line word n line) p = record { some = omega arith; tabs = fields tab refl (omega arith); ends = fields LF refl (omega arith) }
  where
    fields : (b : ℕ) → lacks b refused_word ≡ true → b < 45 → all (lacks b) (line_fields (refused_line word n line)) ≡ true
    fields b h low = rw (h, p.1, lacks_word b (omega arith) p.0, lacks_number b n low, lacks_number b line low)

plain_position : (k i : ℕ) (s : Standing) (l : PrintedLine) → i ≤ 256 → position_lines k i s ≡ l ∷ [] → Plain l
unfolding position_lines
plain_position k i Idle l h e = absurd (let z : ◌≡◌ {A = ℕ} 0 1 = cc in omega arith)
plain_position k i Open l h e = subst Plain (same_first e) (h, omega arith)
plain_position k i (Fulfilled j) l h e = subst Plain (same_first e) (h, omega arith)
plain_position k i (Violated j) l h e = subst Plain (same_first e) (h, omega arith)

plain_run : (r : Run) (l : PrintedLine) → r.count ≤ 256 → RunLine r l → Plain l
unfolding total_of
plain_run r l few w = go w.line
  where
    go : PositionLine r w.rule l ⊎ (total_of w.rule (totals_in r w.rule) ≡ l) → Plain l
    go (inl p) = plain_position w.rule p.position _ l (let h = p.high in omega arith) p.line
    go (inr e) = subst Plain e tt

-- ---- the list of what is printed

same_refusal : {t u : Text} {m n k l : ℕ} → not_read t m k ≡ not_read u n l → refused_line (word_of t) m k ≡ refused_line (word_of u) n l
same_refusal e = cc

-- one line is before another, by their ranks
before : (l m : PrintedLine) → Plain l → Plain m → 1000 ≤ rank l → 1000 ≤ rank m → rank l < rank m → Before l m
before (activation_line k i a j) (activation_line l h b g) p q c d e = go (ltb k l) refl
  where
    go : (t : Bool) → ltb k l ≡ t → (k < l) ⊎ ((k ≡ l) × (i < h))
    go true x = inl (ltb-true k l x)
    go false x = let y = ltb-false k l x in inr (omega (arith, p.0, q.0), omega (arith, p.0, q.0))
before (activation_line k i a j) (total_line l b f v) p q c d e = omega arith
before (total_line k b f v) (activation_line l h a g) p q c d e = omega (arith, q.0)
before (total_line k b f v) (total_line l a g w) p q c d e = omega arith
before (activation_line k i a j) (refused_line w n line) p q c d e = absurd (omega arith)
before (total_line k b f v) (refused_line w n line) p q c d e = absurd (omega arith)
before (refused_line w n line) m p q c d e = absurd (omega arith)

module _ (rules cycle : List ℕ) where
  record Listed (ls : List PrintedLine) : Type 0 where
    plain : (p : ℕ) (l : PrintedLine) → At ls p l → Plain l
    right : (p : ℕ) (l : PrintedLine) → At ls p l → Right rules cycle l
    stands : (l : PrintedLine) → Right rules cycle l → (p : ℕ) × At ls p l
    order : (p q : ℕ) (l m : PrintedLine) → p < q → At ls p l → At ls q m → Before l m

  module _ (r : Run) (reply : notebook_of rules cycle ≡ read_as r) where
    from : ReadFrom rules cycle r
    from = read_from rules cycle r reply

    valid : valid_run r ≡ true
    valid = read_valid rules cycle r reply

    few : r.count ≤ 256
    few = (valid_parts r valid).events_fit

    finishes : Finishes (table_of from.rs) from.es r
    finishes = subst (Finishes (table_of from.rs) from.es) (sym from.run) (run-words.finishes (table_of from.rs) from.es)

    of_both : (l : PrintedLine) → RightOf (table_of from.rs) from.es l → Right rules cycle l
    of_both (activation_line k i letter j) v = (from.rs, from.es, from.rules_read, from.cycle_read, v)
    of_both (total_line k a f v) w = (from.rs, from.es, from.rules_read, from.cycle_read, w)
    of_both (refused_line word n line) v = absurd v

    -- of the same rules and events
    same_source : (P : Table → List Event → Type 0) → OfBoth rules cycle P → P (table_of from.rs) from.es
    same_source P (rs, es, p, q, v) =
        let a : rs ≡ from.rs = all_all (sym p ∙ from.rules_read) in
        let b : es ≡ from.es = all_all (sym q ∙ from.cycle_read) in
        rw (← a, ← b) v

    both_of : (l : PrintedLine) → Right rules cycle l → RightOf (table_of from.rs) from.es l
    both_of (activation_line k i letter j) v = same_source (λ t es. VerdictLine t es k i letter j) v
    both_of (total_line k a f v) w = same_source (λ t es. TotalLine t es k a f v) w
    both_of (refused_line word n line) (text, w, e) = not_both (sym e ∙ reply)

    read_listed : Listed (report_lines r)
    read_listed =
        record {
          plain = λ p l a. plain_run r l few (report_line r l p a);
          right = λ p l a. of_both l (run_right _ _ r finishes valid l (report_line r l p a));
          stands = λ l v. line_report r l (right_run _ _ r finishes valid l (both_of l v));
          order = order;
        }
      where
        order : (p q : ℕ) (l m : PrintedLine) → p < q → At (report_lines r) p l → At (report_lines r) q m → Before l m
        order p q l m h a b =
            let u = report_rises r few in
            before l m (plain_run r l few (report_line r l p a)) (plain_run r m few (report_line r m q b)) (u.bounds p l a).0 (u.bounds q m b).0 (u.order p q l m h a b)

  module _ (text : Text) (n line : ℕ) (reply : notebook_of rules cycle ≡ not_read text n line) where
    not_accepted : (P : Table → List Event → Type 0) → OfBoth rules cycle P → ⊥
    not_accepted P (rs, es, p, q, v) = not_both (sym reply ∙ accepted_texts_lem rules cycle rs es p q)

    stands_refused : (l : PrintedLine) → Right rules cycle l → (p : ℕ) × At (refused_line (word_of text) n line ∷ []) p l
    stands_refused (activation_line k i letter j) v = absurd (not_accepted (λ t es. VerdictLine t es k i letter j) v)
    stands_refused (total_line k a f v) w = absurd (not_accepted (λ t es. TotalLine t es k a f v) w)
    stands_refused (refused_line word m at) (u, w, e) = (0, subst (λ (l : PrintedLine). At (refused_line (word_of text) n line ∷ []) 0 l) same here)
      where
        replies : not_read text n line ≡ not_read u m at
        replies = sym reply ∙ e

        same : refused_line (word_of text) n line ≡ refused_line word m at
        same = same_refusal replies ∙ ap (λ (x : List ℕ). refused_line x m at) (sym w)

    refused_listed : Listed (refused_line (word_of text) n line ∷ [])
    refused_listed =
        record {
          plain = λ p l a. subst Plain (at_single a) (text, refl);
          right = λ p l a. subst (Right rules cycle) (at_single a) (text, refl, reply);
          stands = stands_refused;
          order = λ p q l m h a b. absurd (let c = at_below b in omega arith);
        }

  listed : Listed (printed_lines rules cycle)
  unfolding printed_lines
  listed = go (notebook_of rules cycle) refl
    where
      go : (reply : Reply) → notebook_of rules cycle ≡ reply → Listed (reply_lines reply)
      go (read_as r) e = unfold reply_lines in read_listed r e
      go (not_read text n line) e = unfold reply_lines in refused_listed text n line e

  printed_right : PrintedRight rules cycle (printed_of rules cycle)
  unfolding printed_of
  printed_right =
      let s = listed in
      let ls = printed_lines rules cycle in
      let parts : (p : ℕ) (l : PrintedLine) → At ls p l → Parted line_fields l = λ p l a. parted l (s.plain p l a) in
      record {
        stands = λ l. (
          (λ w. s.right w.0 l (is_line ls parts w.0 l w.1)),
          (λ v. (let a = s.stands l v in (a.0, line_is ls parts a.0 l a.1))),
        );
        others = λ p h. (let a = at_some ls p (rw (← line_count ls parts) h) in (a.0, line_is ls parts p a.0 a.1));
        order = λ p q l m h a b. s.order p q l m h (is_line ls parts p l a) (is_line ls parts q m b);
      }

-- ---- how much is printed

-- numbers of at most two digits
two_digits_lem : (ns : List ℕ) (n : ℕ) → all (λ m. leb m 99) ns ≡ true → any (eqb n) ns ≡ true → n ≤ 99
unfolding all any
two_digits_lem [] n h e = absurd (true≢false (sym e))
two_digits_lem (m ∷ ns) n h e = go (eqb n m) refl (two_digits_lem ns n p.1)
  where
    p : (leb m 99 ≡ true) × (all (λ m. leb m 99) ns ≡ true)
    p = and₂ h

    go : (t : Bool) → eqb n m ≡ t → (any (eqb n) ns ≡ true → n ≤ 99) → n ≤ 99
    go true x f = omega (arith, eqb-true n m x, leb-true m 99 p.0)
    go false x f = f (rw x at e)

report_few : (r : Run) → valid_run r ≡ true → length (written_text line_fields (report_lines r)) ≤ printed_bytes
unfolding report_of
report_few r v = (report_within r v).most

module _ (rules cycle : List ℕ) where
  refused_number : (text : Text) (n line : ℕ) → notebook_of rules cycle ≡ not_read text n line → n ≤ 99
  unfolding all
  refused_number Rules n line e =
      two_digits_lem _ n refl ((demand1.rules_text_lem rules).numbered n line (((demand1.notebook rules cycle).refuses_rules n line).0 e))
  refused_number Cycle n line e =
      two_digits_lem _ n refl ((demand1.cycle_text_lem cycle).numbered n line (((demand1.notebook rules cycle).refuses_cycle n line).0 e).1)

  printed_few : length (printed_of rules cycle) ≤ printed_bytes
  unfolding printed_of printed_lines
  printed_few = go (notebook_of rules cycle) refl
    where
      go : (reply : Reply) → notebook_of rules cycle ≡ reply → length (written_text line_fields (reply_lines reply)) ≤ printed_bytes
      go (read_as r) e = unfold reply_lines in report_few r (read_valid rules cycle r e)
      go (not_read text n line) e =
          let a = refused_number text n line e in
          let b = refused_at rules cycle text n line e in
          let c = (refused_within text n line (omega arith) (omega arith)).most in
          unfold reply_lines in rw (written_one line_fields (refused_line (word_of text) n line)) (omega arith)

-- of refused rules the cycle text is not looked at
rules_first : (rules cycle other : List ℕ) → is_all (rules_text_of rules) ≡ false → printed_of rules cycle ≡ printed_of rules other
unfolding is_all printed_of printed_lines notebook_of finished_of
rules_first rules cycle other = go (rules_text_of rules)
  where
    go : (x : Records Rule) → is_all x ≡ false → written_text line_fields (reply_lines (finished_of x (cycle_text_of cycle))) ≡ written_text line_fields (reply_lines (finished_of x (cycle_text_of other)))
    go (All rs) e = absurd (true≢false e)
    go (Stop n line) e = refl

pub printed : Printed
printed =
    record {
      right = printed_right;
      written = λ rules cycle before after n w. (written true _ before after n w.writes).1;
      rules_first = rules_first;
      texts_room = λ rules cycle buffer h. never_short true (printed_of rules cycle) buffer (λ v. (let l = printed_few rules cycle in omega arith));
      report_room = λ r buffer h. never_short (valid_run r) (report_of r) buffer (λ v. (let l = (report_within r v).most in omega arith));
    }
