-- A cycle line: the number of its fields.
use mathlib.Core.Path.{◌≡◌}
use mathlib.Core.List.{List}
use Prim.Native.Nat.{ℕ}
use borrow.Author.Tests.{ne_eqb}
use lib.ListN.{length}
use Rattle.declare.specs.Answers.{refused, ◌>>◌, require}
use Rattle.cycle_text.specs.Cycle.{event_field_count, event_of}

-- not six fields
pub field_count : (fields : List (List ℕ)) → (length fields ≡ event_field_count → ⊥) → event_of fields ≡ refused 1
unfolding event_of require ◌>>◌
field_count fields h = rw (ne_eqb (length fields) event_field_count h)
