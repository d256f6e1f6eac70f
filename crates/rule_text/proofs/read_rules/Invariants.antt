use lib.ListN.{length}
use Rattle.declare.specs.Limits.{most_rules}
use Rattle.declare.specs.Rules.{no_rule}
use Rattle.line.proofs.Turns.{Turn}
use Rattle.rule_text.specs.Rules.{rule_of, in_table}
use Rattle.rule_text.proofs.read_rules.Given as goal

abbrev pub invariant-loop-rest : goal.invariant-loop-rest
invariant-loop-rest l = Turn rule_of in_table most_rules no_rule l.text l.count l.rules l.rest

abbrev pub decreases-loop-rest : goal.decreases-loop-rest
decreases-loop-rest l = length l.rest
