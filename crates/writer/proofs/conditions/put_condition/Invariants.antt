use Rattle.std.proofs.Common.{◌++◌, map, take}
use Rattle.line.specs.Fields.{each_after}
use Rattle.rule_text.specs.Conditions.{comma}
use Rattle.rule_text.specs.Written.{comparison_text}
use Rattle.buffer.specs.Puts.{Put}
use Rattle.writer.proofs.conditions.put_condition.Given as goal

abbrev pub invariant-loop-next : goal.invariant-loop-next
invariant-loop-next l =
    Put (comparison_text l.fn.c.first ++ each_after comma (map comparison_text (take l.next-index l.next-items))) l.fn.out l.out
