use Rattle.std.proofs.Common.{take}
use Rattle.rule_text.specs.Written.{rules_text}
use Rattle.buffer.specs.Puts.{Put}
use Rattle.writer.proofs.rule.put_rules.Given as goal

abbrev pub invariant-loop-rule : goal.invariant-loop-rule
invariant-loop-rule l = Put (rules_text (take l.rule-index l.rules)) l.initial.out l.out
