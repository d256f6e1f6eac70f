-- Small runs and texts: what is printed of them, and what it should be, byte by byte. Proved as
-- `checked` in proofs/Cases.
use Rattle.std.specs.Prelude.{true, false, List, [], ◌∷◌, ◌++◌, ℕ, replicate}
use Rattle.declare.specs.declared.Standing.{Standing}
use Rattle.declare.specs.declared.Standing.TheVariants.{Idle, Open, Fulfilled, Violated}
use Rattle.declare.specs.EdgeCycles.{event}
use Rattle.run.specs.declared.Run.{Run}
use Rattle.run.specs.RecordCases.{Case, ◌is◌, AsExpected, coded, record_with, record_of}
use Rattle.notebook.specs.declared.Text.TheVariants.{Rules, Cycle}
use Rattle.notebook.specs.Notebook.{read_as, not_read}
use Rattle.printing.specs.Lines.{PrintedLine, activation_line, total_line, refused_line, rules_word, cycle_word}
use Rattle.printing.specs.Report.{report_of, reply_lines, printed_of}

-- the first k of two rules, the first n events; these are the standings under rule 1, and under
-- rule 2 there is no activation
abbrev pub run_of : ℕ → ℕ → List Standing → Run
run_of k n standings = record_of false (coded 2 ∷ coded 9 ∷ []) k (replicate 16 (event 0 1)) n standings

abbrev pub standings : List Standing
standings = Idle ∷ Open ∷ Fulfilled 3 ∷ Violated 0 ∷ []

-- 1 2 O 0
abbrev pub opened : List ℕ
opened = 49 ∷ 9 ∷ 50 ∷ 9 ∷ 79 ∷ 9 ∷ 48 ∷ 10 ∷ []

-- 1 3 F 3
abbrev pub fulfilled : List ℕ
fulfilled = 49 ∷ 9 ∷ 51 ∷ 9 ∷ 70 ∷ 9 ∷ 51 ∷ 10 ∷ []

-- 1 4 V 0
abbrev pub violated : List ℕ
violated = 49 ∷ 9 ∷ 52 ∷ 9 ∷ 86 ∷ 9 ∷ 48 ∷ 10 ∷ []

-- total 1 3 1 1
abbrev pub totals : List ℕ
totals = 116 ∷ 111 ∷ 116 ∷ 97 ∷ 108 ∷ 9 ∷ 49 ∷ 9 ∷ 51 ∷ 9 ∷ 49 ∷ 9 ∷ 49 ∷ 10 ∷ []

-- total 1 1 0 0
abbrev pub open_totals : List ℕ
open_totals = 116 ∷ 111 ∷ 116 ∷ 97 ∷ 108 ∷ 9 ∷ 49 ∷ 9 ∷ 49 ∷ 9 ∷ 48 ∷ 9 ∷ 48 ∷ 10 ∷ []

-- total 2 0 0 0
abbrev pub no_totals : List ℕ
no_totals = 116 ∷ 111 ∷ 116 ∷ 97 ∷ 108 ∷ 9 ∷ 50 ∷ 9 ∷ 48 ∷ 9 ∷ 48 ∷ 9 ∷ 48 ∷ 10 ∷ []

-- 1 12 V 10, total 1 1 0 1
abbrev pub two_digits : List ℕ
two_digits =
    49 ∷ 9 ∷ 49 ∷ 50 ∷ 9 ∷ 86 ∷ 9 ∷ 49 ∷ 48 ∷ 10 ∷ 116 ∷ 111 ∷ 116 ∷ 97 ∷ 108 ∷ 9 ∷ 49 ∷ 9 ∷ 49 ∷ 9 ∷ 48 ∷ 9 ∷ 49 ∷ 10 ∷ []

-- 1 0 F 3, total 1 1 1 0
abbrev pub cycle_fulfilled : List ℕ
cycle_fulfilled =
    49 ∷ 9 ∷ 48 ∷ 9 ∷ 70 ∷ 9 ∷ 51 ∷ 10 ∷ 116 ∷ 111 ∷ 116 ∷ 97 ∷ 108 ∷ 9 ∷ 49 ∷ 9 ∷ 49 ∷ 9 ∷ 49 ∷ 9 ∷ 48 ∷ 10 ∷ []

unfoldable pub reports : List (Case (List ℕ))
reports =
    -- rule by rule, an open activation too, and a rule without activations
    report_of (run_of 2 4 standings) is (opened ++ fulfilled ++ violated ++ totals ++ no_totals)
    -- not past the rules, nor past the events
    ∷ report_of (run_of 1 4 standings) is (opened ++ fulfilled ++ violated ++ totals)
    ∷ report_of (run_of 1 2 standings) is (opened ++ open_totals)
    ∷ report_of (run_of 1 12 (replicate 11 Idle ++ (Violated 10 ∷ []))) is two_digits
    ∷ report_of (run_of 0 4 standings) is []
    -- a rule about the cycle: position 0; of another rule it is not printed
    ∷ report_of (record_with true (coded 13 ∷ coded 9 ∷ []) 2 (replicate 16 (event 0 1)) 4 [] (Fulfilled 3 ∷ Fulfilled 3 ∷ [])) is (cycle_fulfilled ++ no_totals)
    ∷ []

-- a text of one byte lacks LF: 12 in line 1
-- refused rules 12 1
abbrev pub refused_rules : List ℕ
refused_rules =
    114 ∷ 101 ∷ 102 ∷ 117 ∷ 115 ∷ 101 ∷ 100 ∷ 9 ∷ 114 ∷ 117 ∷ 108 ∷ 101 ∷ 115 ∷ 9 ∷ 49 ∷ 50 ∷ 9 ∷ 49 ∷ 10 ∷ []

-- refused cycle 12 1
abbrev pub refused_cycle : List ℕ
refused_cycle =
    114 ∷ 101 ∷ 102 ∷ 117 ∷ 115 ∷ 101 ∷ 100 ∷ 9 ∷ 99 ∷ 121 ∷ 99 ∷ 108 ∷ 101 ∷ 9 ∷ 49 ∷ 50 ∷ 9 ∷ 49 ∷ 10 ∷ []

unfoldable pub texts : List (Case (List ℕ))
texts =
    printed_of (120 ∷ []) (120 ∷ []) is refused_rules
    ∷ printed_of [] (120 ∷ []) is refused_cycle
    ∷ printed_of [] [] is []
    ∷ []

-- of a run that was read, its report
unfoldable pub replies : List (Case (List PrintedLine))
replies =
    reply_lines (read_as (run_of 1 2 standings)) is (activation_line 1 2 79 0 ∷ total_line 1 1 0 0 ∷ [])
    ∷ reply_lines (not_read Rules 4 2) is (refused_line rules_word 4 2 ∷ [])
    ∷ reply_lines (not_read Cycle 8 257) is (refused_line cycle_word 8 257 ∷ [])
    ∷ []

pub record Checked : Type 0 where
  pub of_reports : AsExpected reports
  pub of_texts : AsExpected texts
  pub of_replies : AsExpected replies
