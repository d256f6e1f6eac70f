-- `line::scan_field`: at each turn the reader, handed what is left of the field, ends as one that
-- is handed the whole field.
use mathlib.Core.Path.{◌≡◌}
use native.Mathlib.Omega.{arith}
use lib.ListN.{length, drop_of_length-le}
use Rattle.number.specs.Reader.{after}
use Rattle.line.specs.Types.{Empty}
use Rattle.line.specs.Fields.{index_of, before}
use Rattle.line.specs.Scans.{field_scan}
use Rattle.line.proofs.Fields.{index_here, index_next, before_here, before_next}
use Rattle.line.proofs.scan_field.Goals as goal

pub returns-then-byte-separator : goal.returns-then-byte-separator
unfolding field_scan after
returns-then-byte-separator c =
    let a = c.args in
    let o = c.loop-i in
    let h = c.loop-i-test.true in
    let e : index_of a.separator a.part.now ≡ o.i = omega (arith, index_here a.separator a.part.now o.i h c.if-byte-separator.true) in
    let n : o.reader ≡ after Empty (before a.separator a.part.now) = rw (before_here a.separator a.part.now o.i h c.if-byte-separator.true) at o.invariant.2 in
    rw (e, n)

pub loop-i-preserved : goal.loop-i-preserved
unfolding after
loop-i-preserved c =
    let a = c.args in
    let o = c.loop-i in
    let h = c.loop-i-test.true in
    let more = c.if-byte-separator.false in (
      omega arith,
      omega (arith, index_next a.separator a.part.now o.i h more),
      rw c.push-reader.ensures (rw (before_next a.separator a.part.now o.i h more) at o.invariant.2),
    )

pub returns : goal.returns
unfolding field_scan index_of before after
returns c =
    let a = c.args in
    let o = c.loop-i in
    let e : index_of a.separator a.part.now ≡ length a.part.now = omega (arith, rw (drop_of_length-le a.part.now c.loop-i-test.false) at o.invariant.1) in
    let n : o.reader ≡ after Empty (before a.separator a.part.now) = rw (drop_of_length-le a.part.now c.loop-i-test.false) at o.invariant.2 in
    rw (e, n)
