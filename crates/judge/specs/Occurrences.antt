-- The first occurrences under a rule about the cycle.
use Rattle.std.specs.Prelude.{cond, List, ℕ, zero, suc, min}
use Rattle.declare.specs.declared.Event.{Event}
use Rattle.declare.specs.declared.Rule.{Rule}
use Rattle.declare.specs.Lists.{first_up_to}
use Rattle.declare.specs.Overall.{overall_of, counts_target}
use Rattle.declare.specs.Verdicts.{occurs_at}

-- the earlier of two positions; 0 is none
abbrev pub earlier : ℕ → ℕ → ℕ
earlier zero j = j
earlier (suc i) zero = suc i
earlier (suc i) (suc j) = min (suc i) (suc j)

-- the first of the n events at which the target activity occurs, if it is judged
unfoldable pub target_occurrence : Rule → List Event → ℕ → ℕ
target_occurrence r es n = cond (counts_target (overall_of r.code)) (first_up_to (occurs_at r es r.target) n) 0
