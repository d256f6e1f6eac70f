-- Refused if the table is not valid; else its text has room in the local buffer, and is handed on.
use mathlib.Core.Path.{sym, ◌∙◌}
use borrow.Author.Rules.{rules}
use lib.Seq.{length-take-le}
use Rattle.declare.specs.Rules.{rules_of}
use Rattle.declare.proofs.Tables.{rules_within}
use Rattle.buffer.proofs.Puts.{puts_within, put_lent}
use Rattle.buffer.proofs.Writes.{refuses, hands_on}
use Rattle.writer.proofs.Room.{rules_room}
use Rattle.writer.proofs.write_rules.Goals as goal

pub returns-then-not-valid_table : goal.returns-then-not-valid_table
returns-then-not-valid_table c = refuses (sym c.valid_table.ensures ∙ c.if-not-valid_table.true)

pub shared_ref_as_front-put_rules : goal.shared_ref_as_front-put_rules
shared_ref_as_front-put_rules c = rules_within _ (sym c.valid_table.ensures ∙ c.if-not-valid_table.false)

pub slice_bounds-text-end : goal.slice_bounds-text-end
slice_bounds-text-end c = puts_within (put_lent c.put_rules.ensures (search rules))

pub slice_bounds-write-end : goal.slice_bounds-write-end
slice_bounds-write-end c =
    sym (length-take-le _ _ (puts_within (put_lent c.put_rules.ensures (search rules))))

pub returns : goal.returns
unfolding rules_of
returns c =
    let v = sym c.valid_table.ensures ∙ c.if-not-valid_table.false in
    hands_on v (rules_room _ v) (put_lent c.put_rules.ensures (search rules)) c.write.ensures
