-- Line by line.
use lib.Seq.{take_all}
use Rattle.line.specs.Texts.{written_text}
use Rattle.rule_text.specs.Written.{rule_fields, rules_text}
use Rattle.buffer.proofs.Puts.{put_none}
use Rattle.buffer.proofs.Lines.{put_more}
use Rattle.writer.proofs.rule.put_rules.Goals as goal

pub loop-rule-init : goal.loop-rule-init
unfolding rules_text written_text
loop-rule-init c = put_none _

pub loop-rule-preserved : goal.loop-rule-preserved
unfolding rules_text
loop-rule-preserved c =
    put_more rule_fields _ c.loop-rule.rule-index _ c.loop-rule-test.true c.loop-rule.invariant c.put_rule.ensures

pub returns : goal.returns
returns c =
    rw (take_all c.loop-rule.rule-index c.args.rules.now c.loop-rule-test.false) at c.loop-rule.invariant
