-- What `report` prints, in words: of two accepted texts the verdicts of demand 2 and their counts,
-- of refused ones the text, number and line of demand 1. The lines are those of the printed bytes,
-- which by its contract print_texts writes and `report` hands to standard output.
use Rattle.std.specs.Prelude.{◌≡◌, ◌↔◌, ◌⊎◌, true, false, List, [], ℕ, suc, ◌≤◌, ◌<◌, length, get_or, take, Ok}
use Rattle.declare.specs.declared.Event.{Event}
use Rattle.declare.specs.declared.Rule.{Rule}
use Rattle.declare.specs.declared.Table.{Table}
use Rattle.declare.specs.declared.Standing.{Standing}
use Rattle.declare.specs.declared.Standing.TheVariants.{Fulfilled, Violated}
use Rattle.declare.specs.Lists.{count_below}
use Rattle.declare.specs.Rules.{rule_at}
use Rattle.declare.specs.Slots.{table_of}
use Rattle.declare.specs.Suits.{activation_at}
use Rattle.declare.specs.Standings.{is_fulfilled, is_violated}
use Rattle.declare.specs.Verdicts.{verdict}
use Rattle.declare.specs.Answers.{refused}
use Rattle.standings.specs.Totals.{positions_of}
use Rattle.run.specs.declared.Run.{Run}
use Rattle.line.specs.Fields.{tab, split}
use Rattle.line.specs.Texts.{All, is_all}
use Rattle.cycle_text.specs.Cycle.{cycle_text_of}
use Rattle.rule_text.specs.Rules.{rules_text_of}
use Rattle.notebook.specs.declared.Text.{Text}
use Rattle.notebook.specs.Notebook.{not_read, notebook_of}
use Rattle.printing.specs.Lines.{PrintedLine, activation_line, total_line, refused_line, letter_f, letter_v, line_fields}
use Rattle.printing.specs.Report.{word_of, printed_of}
use Rattle.printing.specs.Printing.{printed_bytes, write_report_of, print_texts_of, PrintsTexts}
use Rattle.demands.specs.Texts.{Line, lines_of}
use Rattle.demands.specs.Demand2.{InCycle}

-- ---- the lines of a text

-- past them
abbrev pub no_line : Line
no_line = record { bytes = []; ended = false }

-- line p, from 0 on: LF ends it, and these are its fields, parted by tabs
pub record LineIs (text : List ℕ) (p : ℕ) (fields : List (List ℕ)) : Type 0 where
  pub ended : (get_or (lines_of text) p no_line).ended ≡ true
  pub parted : split tab (get_or (lines_of text) p no_line).bytes ≡ fields

-- ---- which lines are right

-- `F` or `V`, and the target, of a verdict
abbrev pub Tells : ℕ → ℕ → Standing → Type 0
Tells letter j s = ((letter ≡ letter_f) × (s ≡ Fulfilled j)) ⊎ ((letter ≡ letter_v) × (s ≡ Violated j))

-- "rule, position, F or V, target": position i is an activation of rule k, with that verdict; of a
-- rule about the cycle position 0 is
pub record VerdictLine (t : Table) (es : List Event) (k i letter j : ℕ) : Type 0 where
  pub place : InCycle t es k i
  pub activation : activation_at (rule_at t k) es i ≡ true
  pub tells : Tells letter j (verdict (rule_at t k) es i)

-- "`total`, rule, activations, fulfilled, violated"
pub record TotalLine (t : Table) (es : List Event) (k a f v : ℕ) : Type 0 where
  pub low : 1 ≤ k
  pub high : k ≤ t.count
  pub activations : a ≡ count_below (activation_at (rule_at t k) es) (suc (length es))
  pub fulfilled : f ≡ positions_of is_fulfilled (verdict (rule_at t k) es) (length es)
  pub violated : v ≡ positions_of is_violated (verdict (rule_at t k) es) (length es)

-- both texts are accepted, and this holds of their rules and events
abbrev pub OfBoth : List ℕ → List ℕ → (Table → List Event → Type 0) → Type 0
OfBoth rules cycle P =
    (rs : List Rule) × (es : List Event) × (rules_text_of rules ≡ All rs) × (cycle_text_of cycle ≡ All es) × P (table_of rs) es

abbrev pub Right : List ℕ → List ℕ → PrintedLine → Type 0
Right rules cycle (activation_line k i letter j) = OfBoth rules cycle (λ t es. VerdictLine t es k i letter j)
Right rules cycle (total_line k a f v) = OfBoth rules cycle (λ t es. TotalLine t es k a f v)
-- "or, if refused, the one line `refused`, `rules` or `cycle`, number, line"
Right rules cycle (refused_line word n line) = (text : Text) × (word ≡ word_of text) × (notebook_of rules cycle ≡ not_read text n line)

-- "rule by rule, a line per activation in order of position .. and then `total`"; beside a refused
-- line there is no other
abbrev pub Before : PrintedLine → PrintedLine → Type 0
Before (activation_line k i _ _) (activation_line l h _ _) = (k < l) ⊎ ((k ≡ l) × (i < h))
Before (activation_line k i _ _) (total_line l _ _ _) = k ≤ l
Before (total_line k _ _ _) (activation_line l _ _ _) = k < l
Before (total_line k _ _ _) (total_line l _ _ _) = k < l
Before (activation_line _ _ _ _) (refused_line _ _ _) = ⊥
Before (total_line _ _ _ _) (refused_line _ _ _) = ⊥
Before (refused_line _ _ _) _ = ⊥

-- ---- the promise

-- what is printed of the two texts
pub record PrintedRight (rules cycle text : List ℕ) : Type 0 where
  -- a line stands there exactly if it is right
  pub stands : (l : PrintedLine) → ((p : ℕ) × LineIs text p (line_fields l)) ↔ Right rules cycle l
  -- there is no other line
  pub others : (p : ℕ) → p < length (lines_of text) → (l : PrintedLine) × LineIs text p (line_fields l)
  -- each once, and in order
  pub order : (p q : ℕ) (l m : PrintedLine) → p < q → LineIs text p (line_fields l) → LineIs text q (line_fields m) → Before l m

-- proved as `printed`
pub record Printed : Type 0 where
  pub right : (rules cycle : List ℕ) → PrintedRight rules cycle (printed_of rules cycle)
  -- and print_texts has written it: the first n bytes of the buffer, n the length returned
  pub written : (rules cycle before after : List ℕ) (n : ℕ) → PrintsTexts rules cycle before after (Ok n) → take n after ≡ printed_of rules cycle
  -- "the cycle file is opened after the rules are accepted": of refused ones it does not matter
  pub rules_first : (rules cycle other : List ℕ) → is_all (rules_text_of rules) ≡ false → printed_of rules cycle ≡ printed_of rules other
  -- a buffer of so many bytes is never too short, for any texts and any run
  pub texts_room : (rules cycle buffer : List ℕ) → printed_bytes ≤ length buffer → print_texts_of rules cycle buffer ≡ refused 15 → ⊥
  pub report_room : (r : Run) (buffer : List ℕ) → printed_bytes ≤ length buffer → write_report_of r buffer ≡ refused 15 → ⊥
