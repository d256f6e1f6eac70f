use mathlib.Core.Path.{◌≡◌}
use Rattle.declare.specs.Lists.{last_up_to}
use Rattle.judge.specs.Flags.{flag_at}
use Rattle.judge.proofs.scan.last_activation.Given as goal

abbrev pub invariant-loop-q : goal.invariant-loop-q
invariant-loop-q l = last_up_to (flag_at l.row) l.p ≡ last_up_to (flag_at l.row) l.q
