use mathlib.Core.Path.{◌≡◌}
use lib.ListN.{length}
use Rattle.declare.specs.Limits.{most_events}
use Rattle.judge.proofs.Activations.{FlagsTo}
use Rattle.judge.proofs.flags.flags_of.Given as goal

abbrev pub invariant-loop-p : goal.invariant-loop-p
invariant-loop-p l = (length l.flags ≡ most_events) × FlagsTo l.flags l.rule l.events l.p
