-- The numbers that an answer may be refused with.
use Rattle.std.specs.Prelude.{Bool, true, List, ℕ, eqb}
use Rattle.declare.specs.Answers.{Answer, accepted, refused}
use Rattle.declare.specs.Lists.{any}

-- refused with one of these numbers, if at all
unfoldable pub refuses_with : {A : Type 0} → List ℕ → Answer A → Bool
refuses_with numbers (accepted a) = true
refuses_with numbers (refused n) = any (eqb n) numbers
