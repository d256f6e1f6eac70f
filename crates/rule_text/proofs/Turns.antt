-- The reader's turns: the check of a rule below those above it.
use mathlib.Core.Path.{◌≡◌, ap, ◌∙◌}
use mathlib.Core.List.{List}
use Prim.Native.Nat.{◌≤◌, ◌<◌}
use borrow.Author.Tests.{lt-ltb, le-ltb, ltb-true}
use lib.ListN.{length}
use Rattle.declare.specs.Limits.{most_rules}
use Rattle.declare.specs.Answers.{Answer, accepted, refused, ◌>>◌, require}
use Rattle.declare.proofs.Answers.{of_of, through, required}
use Rattle.rule_text.specs.Types.{Rule}
use Rattle.rule_text.specs.Rules.{in_table}
use Rattle.rule_text.specs.Reads.{below}

module _ (above : List Rule) (r : Rule) where
  pub full : most_rules ≤ length above → in_table above r ≡ refused 8
  unfolding ◌>>◌ require in_table
  full m = rw (le-ltb (length above) most_rules m)

  pub in_table_lem : length above < most_rules → in_table above r ≡ accepted r
  unfolding ◌>>◌ require in_table
  in_table_lem m = rw (lt-ltb (length above) most_rules m)

-- a rule that was passed: its line gave it, and there is room for it
pub record Passed (above : List Rule) (answer : Answer Rule) (r : Rule) : Type 0 where
  pub line : answer ≡ accepted r
  pub room : length above < most_rules

pub passed_lem : (above : List Rule) (answer : Answer Rule) (r : Rule) → below above answer ≡ accepted r → Passed above answer r
unfolding below in_table
passed_lem above answer r h =
    let t = through _ _ r h in
    let l = required _ 8 _ r t.rest in
    record { line = t.first ∙ ap accepted (of_of l.1); room = ltb-true (length above) most_rules l.0 }
