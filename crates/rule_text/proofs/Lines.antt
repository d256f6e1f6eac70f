-- A rule line: the number of its fields.
use mathlib.Core.Path.{◌≡◌}
use mathlib.Core.List.{List}
use Prim.Native.Nat.{ℕ}
use borrow.Author.Tests.{ne_eqb}
use lib.ListN.{length}
use Rattle.declare.specs.Answers.{refused, ◌>>◌, require}
use Rattle.rule_text.specs.Rules.{rule_field_count, rule_of}

-- not seven fields
pub field_count : (fields : List (List ℕ)) → (length fields ≡ rule_field_count → ⊥) → rule_of fields ≡ refused 1
unfolding rule_of require ◌>>◌
field_count fields h = rw (ne_eqb (length fields) rule_field_count h)
