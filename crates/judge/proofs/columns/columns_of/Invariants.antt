use mathlib.Core.Path.{◌≡◌}
use Prim.Native.Nat.{◌*◌}
use lib.ListN.{length}
use Rattle.declare.specs.Limits.{most_events, readings}
use Rattle.judge.specs.Columns.{ShowsFirst}
use Rattle.judge.proofs.ByColumn.{columns}
use Rattle.judge.proofs.columns.columns_of.Given as goal

abbrev pub invariant-loop-q : goal.invariant-loop-q
invariant-loop-q l = (length l.times ≡ most_events) × (length l.activities ≡ most_events) × (length l.numbers ≡ most_events * readings) × ShowsFirst (columns l.times l.activities l.numbers) l.events l.q
