-- The text of a valid record has room in the local buffer.
use mathlib.Core.Path.{◌≡◌}
use mathlib.Core.Bool.{true}
use Prim.Native.Nat.{◌≤◌}
use native.Mathlib.Omega.{arith}
use lib.ListN.{length}
use Rattle.declare.specs.declared.Table.{Table}
use Rattle.declare.specs.Rules.{rules_of, valid_table}
use Rattle.run.specs.declared.Run.{Run}
use Rattle.run.specs.Records.{events_of, valid_run}
use Rattle.run.proofs.Answered.{valid_cycle}
use Rattle.cycle_text.specs.Written.{events_text}
use Rattle.rule_text.specs.Written.{rules_text}
use Rattle.writer.specs.Writer.{rules_bytes, cycle_bytes}
use Rattle.cycle_text.proofs.Lengths as cycle
use Rattle.rule_text.proofs.RoundTrips.{valid_rules}
use Rattle.rule_text.proofs.Lengths as rule

pub rules_room : (t : Table) → valid_table t ≡ true → length (rules_text (rules_of t)) ≤ rules_bytes
rules_room t v =
    let w = valid_rules t v in
    omega (arith, w.most, (rule.written_bytes).most (rules_of t) w)

pub cycle_room : (r : Run) → valid_run r ≡ true → length (events_text (events_of r)) ≤ cycle_bytes
cycle_room r v =
    let w = valid_cycle r v in
    omega (arith, w.most, (cycle.written_bytes).most (events_of r) w)
