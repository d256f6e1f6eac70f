-- The five parts of the definition, in its order; the rows are checked and counted at once.
use Rattle.std.proofs.Common.{arith, sym, ap, ◌∙◌}
use Rattle.std.proofs.lemmas.Grind.{common_steps}
use Rattle.declare.proofs.Tables.{rules_within}
use Rattle.standings.specs.Totals.{zero_totals}
use Rattle.run.specs.Records.{valid_run}
use Rattle.run.proofs.Bounds.{events_within}
use Rattle.run.proofs.Stored.{checked_are, totals_checked}
use Rattle.run.proofs.record.is_valid.Goals as goal

pub returns-then-not-valid_table : goal.returns-then-not-valid_table
unfolding valid_run
returns-then-not-valid_table c = grind (arith, common_steps)

pub checked_rows-requires : goal.checked_rows-requires
checked_rows-requires c = (rules_within _ (sym c.if-not-valid_table.ensures), events_within _ _ (sym c.if-not-valid_events.ensures))

pub returns-in_default : goal.returns-in_default
unfolding valid_run
returns-in_default c = grind (arith, common_steps)

pub returns-then-valid_overall : goal.returns-then-valid_overall
unfolding valid_run
returns-then-valid_overall c =
    let r = c.args.run.now in
    let rules = rules_within r.table (sym c.if-not-valid_table.ensures) in
    let few = events_within r.count r.events (sym c.if-not-valid_events.ensures) in
    let p = checked_are _ c.in-Some.ensures in
    let begun = c.zero_totals-begun.ensures ∙ ap (zero_totals r.table r.overall) c.idle_totals.ensures in
    rw (sym c.if-not-valid_table.ensures, sym c.if-not-valid_events.ensures, p.0, sym c.if-valid_overall.ensures)
    (c.valid_totals.ensures ∙ totals_checked r rules few begun p.1)

pub returns-else-valid_overall : goal.returns-else-valid_overall
unfolding valid_run
returns-else-valid_overall c = grind (arith, common_steps)
