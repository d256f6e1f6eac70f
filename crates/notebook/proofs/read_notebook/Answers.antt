-- By the answer of the rules text.
use Rattle.std.proofs.Common.{◌≡◌}
use Rattle.std.proofs.lemmas.Result.{IfOk-at_ok}
use Rattle.declare.specs.declared.Table.{Table}
use Rattle.declare.specs.Rules.{rules_of}
use Rattle.declare.specs.Slots.{table_of}
use Rattle.rule_text.proofs.Accepted.{accepted_rules, refused_text}
use Rattle.notebook.proofs.Replies.{rules_refused, rules_accepted}
use Rattle.notebook.proofs.read_notebook.Goals as goal

pub returns-in-Ok : goal.returns-in-Ok
returns-in-Ok c =
    let rules = c.read_rules in
    let told =
    rules_accepted c.args.rules.now c.args.cycle.now c.in-Ok.table c.read_with.result (IfOk-at_ok (λ (t : Table). t ≡ table_of (rules_of t)) c.in-Ok.is rules.ensures.slots)
    (accepted_rules _ _ rules.ensures _ c.in-Ok.is) c.read_with.ensures in
    record { result_value = told.0; run_value = told.1 }

pub returns-in-Err : goal.returns-in-Err
returns-in-Err c =
    let told =
    rules_refused c.args.rules.now c.args.cycle.now c.in-Err.cause c.refused.result (refused_text _ _ c.read_rules.ensures _ c.in-Err.is) (rw c.empty_table.ensures at c.refused.ensures) in
    record { result_value = told.0; run_value = told.1 }
