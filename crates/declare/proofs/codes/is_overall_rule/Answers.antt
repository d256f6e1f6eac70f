-- A rule past the count, or past the slots, is none; any other is told by its code.
use mathlib.Core.Path.{◌≡◌, refl, sym, ap, ◌∙◌}
use mathlib.Core.Bool.{Bool, true, false, ◌&&◌, ◌||◌, and-false}
use Prim.Native.Nat.{ℕ, ◌-◌, ◌≤◌, ◌<◌}
use native.Mathlib.Omega.{arith}
use borrow.Author.Tests.{le-leb, lt-leb, leb-true, leb-false, ltb-true, ltb-false}
use lib.Dec.{leb, ltb}
use lib.ListN.{length, get_or, get_or-eq_default}
use Rattle.declare.specs.Types.{Rule, Table}
use Rattle.declare.specs.Limits.{most_rules}
use Rattle.declare.specs.Overall.{is_overall}
use Rattle.declare.specs.Rules.{no_comparison, no_condition, no_rule, rule_at, is_overall_rule}
use Rattle.declare.proofs.Booleans.{neither}
use borrow.Author.Rules.{rules}
use Rattle.declare.proofs.codes.is_overall_rule.Goals as goal
use Rattle.declare.proofs.codes.is_overall_rule.Goals.{Else-table-k}

no_rule_lem : (t : Table) (k : ℕ) → length t.rules ≡ most_rules → (ltb t.count k || leb 16 (k - 1)) ≡ true → is_overall_rule t k ≡ false
unfolding is_overall_rule rule_at
no_rule_lem t k full h = go (ltb t.count k) refl h
  where
    past_slots : leb 16 (k - 1) ≡ true → is_overall (rule_at t k).code ≡ false
    past_slots q =
        let past : length t.rules ≤ k - 1 = omega (arith, leb-true 16 (k - 1) q, full) in
        ap (λ (r : Rule). is_overall r.code) (get_or-eq_default t.rules no_rule past) ∙ unfold is_overall no_rule in lt-leb 13 0 (omega arith)

    go : (b : Bool) → ltb t.count k ≡ b → (b || leb 16 (k - 1)) ≡ true → (leb k t.count && is_overall (rule_at t k).code) ≡ false
    go true q h = rw (lt-leb k t.count (ltb-true t.count k q))
    go false q h = rw (past_slots h) (and-false (leb k t.count))

pub returns-then-table-k : goal.returns-then-table-k
returns-then-table-k c =
    let a = c.args in
    let full : length c.args.table.rules ≡ most_rules = search rules in
    let p = c.saturating_sub-p.ensures in
    sym (no_rule_lem a.table a.k full (rw p at c.if-table-k.true))

within : (c : Else-table-k) → (c.args.k ≤ c.args.table.count) × (c.saturating_sub-p.result < 16)
within c =
    let a = c.args in
    let n = neither (ltb a.table.count a.k) (leb 16 c.saturating_sub-p.result) c.if-table-k.false in
    (ltb-false a.table.count a.k n.0, leb-false 16 c.saturating_sub-p.result n.1)

pub offset_bounds-table-p : goal.offset_bounds-table-p
offset_bounds-table-p c = let w = within c in search rules

pub bounds-table-p : goal.bounds-table-p
bounds-table-p c = (within c).1

pub returns : goal.returns
unfolding is_overall_rule rule_at no_rule no_condition no_comparison
returns c =
    let e = c.before.before in
    rw (le-leb _ _ (within e).0) (c.is_overall.ensures ∙ ap (λ (p : ℕ). is_overall (get_or e.args.table.rules p no_rule).code) e.saturating_sub-p.ensures)
