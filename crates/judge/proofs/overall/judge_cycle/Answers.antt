-- The first occurrences say what the standing is.
use Rattle.std.proofs.Common.{◌≡◌, Bool, not, ◌||◌, ltb, sym, ap, ap₂, ◌∙◌}
use Rattle.declare.specs.declared.Overall.{Overall}
use Rattle.declare.specs.Overall.{overall_of, formula, settled}
use Rattle.declare.specs.Verdicts.{fulfilled_if}
use Rattle.judge.specs.Occurrences.{earlier}
use Rattle.judge.proofs.Occurrences.{Firsts, shut, opened, past}
use Rattle.judge.proofs.overall.judge_cycle.Goals as goal
use Rattle.judge.proofs.overall.judge_cycle.Goals.{After-settled}

firsts : (c : After-settled) → Firsts c.args.rule.now c.args.events.now c.first_occurrence-a.result c.target_occurrence-b.result
firsts c = record { activation = c.first_occurrence-a.ensures.0; target = c.target_occurrence-b.ensures.0 }

stands : (c : After-settled) → c.fulfilled_if-decided.result ≡ fulfilled_if (formula (overall_of c.args.rule.now.code) (ltb 0 c.first_occurrence-a.result) (ltb 0 c.target_occurrence-b.result)) (earlier c.first_occurrence-a.result c.target_occurrence-b.result)
stands c =
    c.fulfilled_if-decided.ensures
    ∙ ap₂ fulfilled_if (c.formula.ensures ∙ ap (λ (o : Overall). formula o (ltb 0 c.first_occurrence-a.result) (ltb 0 c.target_occurrence-b.result)) c.overall_of-kind.ensures) (c.target_of.ensures ∙ c.earlier.ensures)

-- finished, or settled
halts : (c : After-settled) {v : Bool} → (not c.args.running || c.settled.result) ≡ v → (not c.args.running || settled (overall_of c.args.rule.now.code) (ltb 0 c.first_occurrence-a.result) (ltb 0 c.target_occurrence-b.result)) ≡ v
halts c e =
    ap (λ (t : Bool). not c.args.running || t) (sym (c.settled.ensures ∙ ap (λ (o : Overall). settled o (ltb 0 c.first_occurrence-a.result) (ltb 0 c.target_occurrence-b.result)) c.overall_of-kind.ensures)) ∙ e

pub returns-then-running-settled : goal.returns-then-running-settled
returns-then-running-settled c =
    let s = c.before in
    shut (firsts s) c.requires.1 c.args.running c.args.horizon (stands s) (halts s c.if-running-settled.true)

pub returns-then-can_occur : goal.returns-then-can_occur
returns-then-can_occur c =
    let s = c.before.before.before in
    opened (firsts s) c.requires.1 c.args.running c.args.horizon (halts s c.if-running-settled.false) (sym c.can_occur.ensures ∙ c.if-can_occur.true)

pub returns : goal.returns
returns c =
    let s = c.before.before.before in
    past (firsts s) c.requires.1 c.args.running c.args.horizon (stands s) (halts s c.if-running-settled.false) (sym c.can_occur.ensures ∙ c.if-can_occur.false)
