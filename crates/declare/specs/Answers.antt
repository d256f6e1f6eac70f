-- What a call answers: a value, or the number of document 01's table for the first cause that
-- holds. A `do` block goes through its checks in order.
use Rattle.std.specs.Prelude.{Bool, true, false, cond, ℕ, Result, Ok, Err}
use Rattle.declare.specs.Types.{Refusal}
use Rattle.declare.specs.Refusals.{number_of}

pub data Answer (A : Type 0) : Type 0 where
  accepted : A → Answer A
  refused : ℕ → Answer A

infixl 10 ◌>>=◌ ◌>>◌
unfoldable pub ◌>>=◌ : {A B : Type 0} → Answer A → (A → Answer B) → Answer B
◌>>=◌ (accepted a) f = f a
◌>>=◌ (refused n) f = refused n

unfoldable pub ◌>>◌ : {B : Type 0} → Answer (Unit {0}) → Answer B → Answer B
◌>>◌ (accepted a) b = b
◌>>◌ (refused n) b = refused n

-- refused with n unless the test holds
unfoldable pub require : Bool → ℕ → Answer (Unit {0})
require test n = cond test (accepted tt) (refused n)

unfoldable pub is_accepted : {A : Type 0} → Answer A → Bool
is_accepted (accepted a) = true
is_accepted (refused n) = false

-- "a refusal alters neither run nor tally": what stands after a call on `before`
unfoldable pub after_call : {A : Type 0} → A → Answer A → A
after_call before (accepted next) = next
after_call before (refused n) = before

-- what the code's answers say, by document 01's numbers
unfoldable pub answer_of : {A : Type 0} → Result A Refusal → Answer A
answer_of (Ok a) = accepted a
answer_of (Err cause) = refused (number_of cause)
