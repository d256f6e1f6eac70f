-- `line::check_line`: by the scan of the line, which has a field more than tabs.
use mathlib.Core.Path.{◌≡◌, sym, ap}
use mathlib.Core.List.{List}
use Prim.Native.Nat.{ℕ, ◌+◌, ◌≤◌, ◌<◌}
use native.Mathlib.Omega.{arith}
use borrow.Author.Tests.{lt-ltb, le-ltb, eq-eqb, ne_eqb}
use lib.ListN.{length}
use Rattle.declare.specs.Refusals.{number_of}
use Rattle.declare.specs.Answers.{accepted, refused, answer_of, require}
use Rattle.line.specs.Types.{LineScan}
use Rattle.line.specs.Fields.{LF, tab, index_of, before, split}
use Rattle.line.specs.Scans.{line_scan}
use Rattle.line.specs.Texts.{has_fields, line_of}
use Rattle.line.proofs.Fields.{index_le, count_parts}
use Rattle.line.proofs.check_line.Goals as goal
use Rattle.line.proofs.check_line.Goals.{then-text-scan, else-text-scan+then-scan-tabs, else-text-scan+else-scan-tabs}

module _ (s : List ℕ) (scan : LineScan) (h : scan ≡ line_scan s) where
  end_is : scan.end ≡ index_of LF s
  unfolding line_scan
  end_is = ap (λ (k : LineScan). k.end) h

  fields_are : length (split tab (before LF s)) ≡ scan.tabs + 1
  unfolding line_scan
  fields_are = omega (arith, count_parts tab (before LF s), ap (λ (k : LineScan). k.tabs) h)

  module _ (n : ℕ) where
    not_ended : length s ≤ scan.end → line_of (has_fields n) s ≡ refused 12
    unfolding line_of
    not_ended l = rw (le-ltb (index_of LF s) (length s) (omega (arith, end_is)))

    other : scan.end < length s → (scan.tabs + 1 ≡ n → ⊥) → line_of (has_fields n) s ≡ refused 1
    unfolding line_of has_fields require
    other l m = rw (lt-ltb (index_of LF s) (length s) (omega (arith, end_is)), ne_eqb (length (split tab (before LF s))) n (λ e. m (omega (arith, fields_are))))

    right : scan.end < length s → scan.tabs + 1 ≡ n → line_of (has_fields n) s ≡ accepted tt
    unfolding line_of has_fields require
    right l m = rw (lt-ltb (index_of LF s) (length s) (omega (arith, end_is)), eq-eqb (length (split tab (before LF s))) n (omega (arith, fields_are)))

pub overflow_add-result : goal.overflow_add-result
overflow_add-result c =
    omega (arith, end_is _ _ c.scan_line-scan.ensures, index_le LF c.args.text.now, c.well_formed)

pub returns-clause-answer_value : goal.returns-clause-answer_value
unfolding answer_of number_of
returns-clause-answer_value c =
    let scan = c.scan_line-scan.ensures in
    let n = c.args.tabs + 1 in
    elim c.if-text-scan.branch [
      | then-text-scan w ↦ rw w.answer-is (sym (not_ended _ _ scan n w.if-text-scan.true))
      | else-text-scan+then-scan-tabs w ↦
          rw w.answer-is (sym (other _ _ scan n w.if-text-scan.false (λ e. w.if-scan-tabs.true (omega arith))))
      | else-text-scan+else-scan-tabs w ↦ rw w.answer-is (sym (right _ _ scan n w.if-text-scan.false (omega (arith, w.if-scan-tabs.false))))
    ]

pub returns-clause-next_value : goal.returns-clause-next_value
returns-clause-next_value c = omega (arith, end_is _ _ c.scan_line-scan.ensures)
