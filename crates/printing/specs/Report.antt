-- What is printed of a run, and of two texts: "fields parted by a tab, rule by rule, a line per
-- activation in order of position .. and then `total` ..; or, if refused, the one line `refused`
-- ..".
use Rattle.std.specs.Prelude.{List, [], ◌∷◌, ◌++◌, ℕ, zero, suc}
use Rattle.declare.specs.declared.Standing.{Standing}
use Rattle.declare.specs.declared.Standing.TheVariants.{Idle, Open, Fulfilled, Violated}
use Rattle.standings.specs.declared.totals.Totals.{Totals}
use Rattle.standings.specs.Totals.{totals_by}
use Rattle.run.specs.declared.Run.{Run}
use Rattle.run.specs.Records.{standing_at}
use Rattle.line.specs.Texts.{written_text}
use Rattle.notebook.specs.declared.Text.{Text}
use Rattle.notebook.specs.declared.Text.TheVariants.{Rules, Cycle}
use Rattle.notebook.specs.Notebook.{Reply, read_as, not_read, notebook_of}
use Rattle.printing.specs.Lines.{PrintedLine, activation_line, total_line, refused_line, letter_f, letter_v, letter_o, rules_word, cycle_word, line_fields}

-- ---- of a run

-- the line of position i under rule k, if it is an activation; no target is named while it is open
unfoldable pub position_lines : ℕ → ℕ → Standing → List PrintedLine
position_lines k i Idle = []
position_lines k i Open = activation_line k i letter_o 0 ∷ []
position_lines k i (Fulfilled j) = activation_line k i letter_f j ∷ []
position_lines k i (Violated j) = activation_line k i letter_v j ∷ []

-- the lines of 1 to n, one after another
unfoldable pub lines_up_to : (ℕ → List PrintedLine) → ℕ → List PrintedLine
lines_up_to f zero = []
lines_up_to f (suc n) = lines_up_to f n ++ f (suc n)

-- of the positions 1 to n, whose standings are s
unfoldable pub event_lines : ℕ → (ℕ → Standing) → ℕ → List PrintedLine
event_lines k s n = lines_up_to (λ i. position_lines k i (s i)) n

-- "a line per activation in order of position", a rule about the cycle "as position 0"
unfoldable pub activation_lines : ℕ → (ℕ → Standing) → ℕ → List PrintedLine
activation_lines k s n = position_lines k 0 (s 0) ++ event_lines k s n

unfoldable pub total_of : ℕ → Totals → PrintedLine
total_of k t = total_line k t.activations t.fulfilled t.violated

-- "and then `total`"
unfoldable pub rule_lines : ℕ → (ℕ → Standing) → ℕ → List PrintedLine
rule_lines k s n = activation_lines k s n ++ (total_of k (totals_by s n) ∷ [])

-- "rule by rule"
unfoldable pub report_lines : Run → List PrintedLine
report_lines r = lines_up_to (λ k. rule_lines k (standing_at r k) r.count) r.table.count

unfoldable pub report_of : Run → List ℕ
report_of r = written_text line_fields (report_lines r)

-- ---- of two texts

unfoldable pub word_of : Text → List ℕ
word_of Rules = rules_word
word_of Cycle = cycle_word

unfoldable pub reply_lines : Reply → List PrintedLine
reply_lines (read_as r) = report_lines r
reply_lines (not_read text number line) = refused_line (word_of text) number line ∷ []

unfoldable pub printed_lines : List ℕ → List ℕ → List PrintedLine
printed_lines rules cycle = reply_lines (notebook_of rules cycle)

-- what `report` prints for two texts that it has read from files
unfoldable pub printed_of : List ℕ → List ℕ → List ℕ
printed_of rules cycle = written_text line_fields (printed_lines rules cycle)
