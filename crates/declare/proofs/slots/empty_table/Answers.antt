-- The record of the definition.
use Rattle.declare.specs.Slots.{padded, table_of, empty_table}
use Rattle.declare.proofs.slots.empty_table.Goals as goal

pub returns : goal.returns
unfolding padded table_of empty_table
returns c = rw c.no_rule-rule.ensures
