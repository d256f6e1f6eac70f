-- `line::scan_line`: at each turn the index of LF, and the tabs before it, in the whole text are
-- those found so far and those of what is left. A byte above LF is neither.
use mathlib.Core.Path.{◌≡◌}
use native.Mathlib.Omega.{arith}
use lib.ListN.{length, drop_of_length-le}
use Rattle.line.specs.Fields.{LF, tab, index_of, before, count_of}
use Rattle.line.specs.Scans.{line_scan}
use Rattle.line.proofs.Fields.{index_here, index_next, before_here, count_here, count_next}
use Rattle.line.proofs.scan_line.Goals as goal
use Rattle.line.proofs.scan_line.Goals.{then-byte-le-LINE_FEED+in-9, then-byte-le-LINE_FEED+in_default, else-byte-le-LINE_FEED}

pub returns-in-10 : goal.returns-in-10
unfolding line_scan count_of
returns-in-10 c =
    let s = c.args.text.now in
    let o = c.loop-i in
    let h = c.loop-i-test.true in
    let e : index_of LF s ≡ o.i = omega (arith, index_here LF s o.i h c.in-10.is) in
    let n : count_of tab (before LF s) ≡ o.tabs = omega (arith, rw (before_here LF s o.i h c.in-10.is) at o.invariant.3) in
    rw (e, n)

pub loop-i-preserved : goal.loop-i-preserved
loop-i-preserved c =
    let s = c.args.text.now in
    let i = c.loop-i.i in
    let h = c.loop-i-test.true in
    elim c.if-byte-le-LINE_FEED.branch [
      | then-byte-le-LINE_FEED+in-9 w ↦ omega (arith, index_next LF s i h (λ e. omega arith), count_here LF tab s i h (λ e. omega arith) w.in-9.is)
      | then-byte-le-LINE_FEED+in_default w ↦ omega (arith, index_next LF s i h (λ e. omega arith), count_next LF tab s i h (λ e. omega arith) (λ e. omega arith))
      | else-byte-le-LINE_FEED w ↦
          omega (arith, index_next LF s i h (λ e. omega arith), count_next LF tab s i h (λ e. omega arith) (λ e. omega arith))
    ]

pub returns : goal.returns
unfolding line_scan index_of before count_of
returns c =
    let s = c.args.text.now in
    let o = c.loop-i in
    let e : index_of LF s ≡ length s = omega (arith, rw (drop_of_length-le s c.loop-i-test.false) at o.invariant.2) in
    let n : count_of tab (before LF s) ≡ o.tabs = omega (arith, rw (drop_of_length-le s c.loop-i-test.false) at o.invariant.3) in
    rw (e, n)
