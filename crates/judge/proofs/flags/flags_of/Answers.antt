-- The events passed so far have their flags; the others, and those of another activity, have none.
use Rattle.std.proofs.Common.{length-set, sym, ◌∙◌, rules, arith}
use borrow.Author.Tests.{eq-eqb, ne_eqb}
use Rattle.declare.specs.Limits.{most_events}
use Rattle.declare.specs.Events.{no_event}
use Rattle.judge.proofs.Activations.{flags_none, flags_again, flags_kept, flags_all, flags_of_cycle, of_activity, other_activity}
use Rattle.judge.proofs.flags.flags_of.Goals as goal
use Rattle.judge.proofs.flags.flags_of.Goals.{then-e-rule, else-e-rule}

pub returns-then-is_overall : goal.returns-then-is_overall
returns-then-is_overall c = flags_of_cycle most_events _ _ (sym c.is_overall.ensures ∙ c.if-is_overall.true)

pub loop-p-init : goal.loop-p-init
loop-p-init c = (search rules, flags_none most_events _ _)

pub loop-p-preserved : goal.loop-p-preserved
unfolding no_event
loop-p-preserved c =
    let l = c.loop-p in
    let o = sym c.is_overall.ensures ∙ c.if-is_overall.false in
    elim c.if-e-rule.branch [
      | then-e-rule w ↦
          rw w.flags-is (
            simp length-set l.invariant.0,
            (flags_again l.invariant.1 (omega (arith, l.invariant.0)) (w.met.ensures ∙ of_activity _ _ o (eq-eqb _ _ w.if-e-rule.true))),
          )
      | else-e-rule w ↦
          rw w.flags-is (
            l.invariant.0,
            (flags_kept l.invariant.1 (other_activity _ _ o (ne_eqb _ _ w.if-e-rule.false))),
          )
    ]

pub returns : goal.returns
returns c = flags_all c.loop-p.invariant.1 (omega arith)
