-- Laws of tables: their counts, their rules by number, and the table of a list of rules.
use mathlib.Core.Path.{◌≡◌, sym, ap, ◌∙◌}
use mathlib.Core.Bool.{true}
use mathlib.Core.List.{List}
use Prim.Native.Nat.{ℕ, ◌-◌, ◌≤◌}
use native.Mathlib.Omega.{arith}
use borrow.Author.Tests.{le-leb, leb-true}
use lib.Dec.{leb}
use lib.ListN.{length, take, replicate, length-append, length-replicate}
use lib.Seq.{take-append_seam, length-take-le, get_or-take}
use Rattle.declare.specs.Types.{Rule, Table}
use Rattle.declare.specs.Lists.{all}
use Rattle.declare.specs.Limits.{most_rules}
use Rattle.declare.specs.Rules.{valid_rule, no_rule, rule_at, rules_of, valid_table}
use Rattle.declare.specs.Slots.{padded, table_of}
use Rattle.declare.proofs.Booleans.{and_left, and_right, both, all_at}

-- ---- a valid table

pub rules_within : (t : Table) → valid_table t ≡ true → t.count ≤ most_rules
unfolding valid_table
rules_within t v = leb-true t.count most_rules (and_left (leb t.count most_rules) (all valid_rule (rules_of t)) v)

module _ (t : Table) (slots : length t.rules ≡ most_rules) where
  pub rule_count : t.count ≤ most_rules → length (rules_of t) ≡ t.count
  unfolding rules_of
  rule_count n = length-take-le t.count t.rules (omega arith)

  pub rule_valid : valid_table t ≡ true → (k : ℕ) → 1 ≤ k → k ≤ t.count → valid_rule (rule_at t k) ≡ true
  unfolding valid_table rule_at rules_of
  rule_valid v k a b =
      let n : length (take t.count t.rules) ≡ t.count = rule_count (rules_within t v) in
      sym (ap valid_rule (get_or-take t.count t.rules (k - 1) no_rule (omega arith)))
      ∙ all_at valid_rule (take t.count t.rules) (k - 1) no_rule (and_right (leb t.count most_rules) (all valid_rule (take t.count t.rules)) v) (omega arith)

-- ---- the table of a list of rules

module _ (rs : List Rule) where
  pub table_rules : rules_of (table_of rs) ≡ rs
  unfolding rules_of table_of padded
  table_rules = take-append_seam rs (replicate (most_rules - length rs) no_rule)

  module _ (most : length rs ≤ most_rules) where
    pub table_slots : length (table_of rs).rules ≡ most_rules
    unfolding table_of padded
    table_slots = simp (length-append, length-replicate) (omega arith)

    pub table_valid : all valid_rule rs ≡ true → valid_table (table_of rs) ≡ true
    unfolding valid_table
    table_valid v =
        let few : leb (table_of rs).count most_rules ≡ true = unfold table_of in le-leb (length rs) most_rules most in
        both few (rw table_rules v)
