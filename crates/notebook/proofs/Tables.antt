-- The table that is read from the text of another's rules: a text says nothing of the slots that
-- are not in use.
use mathlib.Core.Path.{◌≡◌, refl, ap, ◌∙◌}
use mathlib.Core.List.{List, [], ◌∷◌, map}
use Prim.Native.Nat.{ℕ, zero, suc, ◌-◌, ◌≤◌, ◌<◌}
use native.Mathlib.Omega.{arith}
use lib.ListN.{length, get_or, replicate, length-map, get_or-append}
use lib.Seq.{get_or-take}
use Rattle.declare.specs.declared.Rule.{Rule}
use Rattle.declare.specs.declared.Table.{Table}
use Rattle.declare.specs.Limits.{most_rules}
use Rattle.declare.specs.Rules.{no_rule, rule_at, rules_of}
use Rattle.declare.specs.Slots.{padded, table_of}
use Rattle.declare.proofs.Tables.{rule_count}
use Rattle.rule_text.specs.Written.{canonical, rewritten}

module _ (t : Table) (slots : length t.rules ≡ most_rules) (most : t.count ≤ most_rules) where
  count : length (rules_of t) ≡ t.count
  count = rule_count t slots most

  pub same_count : (rewritten t).count ≡ t.count
  unfolding table_of
  same_count = length-map (rules_of t) canonical ∙ count

  pub canonical_rule : (k : ℕ) → 1 ≤ k → k ≤ t.count → rule_at (rewritten t) k ≡ canonical (rule_at t k)
  unfolding rule_at table_of padded
  canonical_rule k a b =
      get_or-append (map canonical (rules_of t)) (replicate (most_rules - length (map canonical (rules_of t))) no_rule) no_rule (k - 1) (rw (length-map (rules_of t) canonical, count) (omega arith))
      ∙ canonical_at (rules_of t) (k - 1) (rw count (omega arith))
      ∙ ap canonical (unfold rules_of in get_or-take t.count t.rules (k - 1) no_rule (omega arith))
    where
      canonical_at : (rs : List Rule) (i : ℕ) → i < length rs → get_or (map canonical rs) i no_rule ≡ canonical (get_or rs i no_rule)
      canonical_at [] i h = absurd (omega arith)
      canonical_at (r ∷ rs) zero h = refl
      canonical_at (r ∷ rs) (suc i) h = canonical_at rs i (omega arith)
