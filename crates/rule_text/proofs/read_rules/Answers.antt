-- `read_rules`: the turns of `line/proofs/Turns`.
use mathlib.Core.Path.{sym, ◌∙◌, ap₂}
use mathlib.Core.List.{List}
use native.Mathlib.Omega.{arith}
use Prim.Native.Nat.{ℕ, ◌<◌}
use lib.ListN.{take}
use Rattle.std.proofs.lemmas.Result.{err_from_is_err_and}
use Rattle.declare.specs.Limits.{most_rules}
use Rattle.declare.specs.Rules.{rules_of}
use Rattle.declare.specs.Slots.{table_of}
use Rattle.declare.specs.Answers.{answer_of, ◌>>=◌}
use Rattle.line.specs.Texts.{records_read}
use Rattle.line.proofs.Texts.{line_refused, line_accepted}
use Rattle.line.proofs.Turns.{first_turn, turn_count, last_turn, turn_refused, turn_less, turn_taken}
use Rattle.rule_text.specs.Types.{Rule, Table}
use Rattle.rule_text.specs.Rules.{rule_after, rules_text_of}
use Rattle.rule_text.specs.Reads.{below}
use Rattle.rule_text.proofs.Turns.{Passed, passed_lem, in_table_lem}
use Rattle.rule_text.proofs.read_rules.Goals as goal
use Rattle.rule_text.proofs.read_rules.Goals.{In_ok-rule}

pub loop-rest-init : goal.loop-rest-init
loop-rest-init c = rw c.no_rule-rules.ensures (first_turn _ _ _ _ _)

pub returns-in_err-rule : goal.returns-in_err-rule
unfolding rules_text_of rule_after below
returns-in_err-rule c =
    let t = c.loop-rest.invariant in
    let o = c.in_table.ensures (take c.loop-rest.count c.loop-rest.rules) (sym (turn_count t)) in
    let p = err_from_is_err_and c.from_residual.result c.from_residual.ensures.1 in
    rw (p.1, p.2) (record {
      records = line_refused rules_of c.in_table.result _ _ _ (sym c.in_err-rule.ensures) (λ n e. turn_refused t (sym c.loop-rest-test.ensures) c.rule_line-line.ensures.answer_value (sym o ∙ e));
      slots = tt;
    })

passed : (c : In_ok-rule) → Passed (take c.loop-rest.count c.loop-rest.rules) (answer_of c.rule_line-line.result.answer) c.in_ok-rule.rule
passed c =
    let o = c.in_table.ensures (take c.loop-rest.count c.loop-rest.rules) (sym (turn_count c.loop-rest.invariant)) in
    passed_lem _ _ _ (sym o ∙ line_accepted c.in_table.result _ _ (sym c.in_ok-rule.ensures))

pub bounds-rules-count : goal.bounds-rules-count
bounds-rules-count c = omega (arith, (passed c).room, turn_count c.loop-rest.invariant)

pub loop-rest-preserved : goal.loop-rest-preserved
unfolding ◌>>=◌
loop-rest-preserved c =
    let above = take c.loop-rest.count c.loop-rest.rules in
    let t = c.loop-rest.invariant in
    let r = c.in_ok-rule.rule in
    let line = c.rule_line-line.ensures in
    let o = c.in_table.ensures above (sym (turn_count t)) in
    let p = passed_lem above _ r (sym o ∙ line_accepted c.in_table.result _ _ (sym c.in_ok-rule.ensures)) in
    let m : c.loop-rest.count < most_rules = omega (arith, p.room, turn_count t) in
    rw c.part_from-rest.ensures (turn_taken t (sym c.loop-rest-test.ensures) line.answer_value r _ (rw p.line (in_table_lem above r p.room)) m line.next_value)

pub loop-rest-smaller : goal.loop-rest-smaller
loop-rest-smaller c =
    rw c.part_from-rest.ensures (turn_less c.loop-rest.rest.now _ (sym c.loop-rest-test.ensures) c.rule_line-line.ensures.next_value)

slotted : ℕ → List Rule → Table
slotted count rules = record { count = count; rules = rules }

pub returns : goal.returns
unfolding rules_text_of rule_after records_read rules_of table_of slotted
returns c =
    let t = c.loop-rest.invariant in
    record { records = sym (last_turn t (sym c.loop-rest-test.ensures)); slots = ap₂ slotted (sym (turn_count t)) t.filled.same }
