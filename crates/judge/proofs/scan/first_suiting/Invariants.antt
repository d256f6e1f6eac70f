use mathlib.Core.Path.{◌≡◌}
use Rattle.declare.specs.Lists.{first_past}
use Rattle.judge.specs.Columns.{suits_in}
use Rattle.judge.proofs.scan.first_suiting.Given as goal

abbrev pub invariant-loop-q : goal.invariant-loop-q
invariant-loop-q l = first_past (suits_in l.bound l.columns) l.start l.q ≡ 0
