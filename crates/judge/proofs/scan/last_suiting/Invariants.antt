use mathlib.Core.Path.{◌≡◌}
use Rattle.declare.specs.Lists.{last_up_to}
use Rattle.judge.specs.Columns.{suits_past}
use Rattle.judge.proofs.scan.last_suiting.Given as goal

abbrev pub invariant-loop-q : goal.invariant-loop-q
invariant-loop-q l = last_up_to (suits_past l.bound l.columns l.start) l.stop ≡ last_up_to (suits_past l.bound l.columns l.start) l.q
