-- Seven fields, each with the byte that ends it.
use Rattle.rule_text.specs.Written.{rule_fields}
use Rattle.buffer.proofs.Puts.{put_then}
use Rattle.buffer.proofs.Lines.{put_line}
use Rattle.writer.proofs.rule.put_rule.Goals as goal

pub returns : goal.returns
unfolding rule_fields
returns c =
    put_line rule_fields c.args.rule
    (put_then c.put_byte_field.ensures
    (put_then c.put_byte_field-2.ensures
    (put_then c.put_byte_field-3.ensures
    (put_then c.put_number_field.ensures
    (put_then c.put_end_field.ensures
    (put_then c.put_condition_field.ensures c.put_condition_field-2.ensures))))))
