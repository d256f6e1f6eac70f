-- How a number is written: its digits, the highest first, with no zero before them; a negative one
-- with `-` before.
use Rattle.std.specs.Prelude.{cond, List, [], ◌∷◌, ◌++◌, ℕ, zero, suc, ◌+◌, ◌/◌, ◌%◌, ltb, ℤ, pos, negsuc}
use Rattle.number.specs.Number.{digit0, hyphen}

-- the digits of n, of which there are at most k
unfoldable pub digits_in : ℕ → ℕ → List ℕ
digits_in zero n = []
digits_in (suc k) n = cond (ltb n 10) ((digit0 + n) ∷ []) (digits_in k (n / 10) ++ ((digit0 + n % 10) ∷ []))

unfoldable pub digits_of : ℕ → List ℕ
digits_of n = digits_in (suc n) n

unfoldable pub integer_text : ℤ → List ℕ
integer_text (pos n) = digits_of n
integer_text (negsuc n) = hyphen ∷ digits_of (suc n)
