-- What document 01 says of numbers: "a number is `0`, or a non-zero digit and digits; readings and
-- k may have one `-` before the non-zero digit". A number's text is a list of bytes.
use Rattle.std.specs.Prelude.{Bool, true, false, not, cond, ◌&&◌, ◌||◌, List, [], ◌∷◌, ℕ, ◌+◌, ◌-◌, ◌*◌, leb, eqb, ℤ, pos, negsuc, neg_ℤ, Result, Ok, Err}
use Rattle.std.specs.Int.Signed.{le_z}
use Rattle.number.specs.Types.{Fault, Form, Range}

-- ---- the form

-- `0` to `9` are the bytes 48 to 57
abbrev pub digit0 : ℕ
digit0 = 48

abbrev pub digit9 : ℕ
digit9 = 57

-- `-`
abbrev pub hyphen : ℕ
hyphen = 45

unfoldable pub digit : ℕ → Bool
digit b = leb digit0 b && leb b digit9

unfoldable pub digits : List ℕ → Bool
digits [] = true
digits (b ∷ bs) = digit b && digits bs

unfoldable pub none : List ℕ → Bool
none [] = true
none (b ∷ bs) = false

-- `0`
unfoldable pub zero_alone : List ℕ → Bool
zero_alone [] = false
zero_alone (b ∷ bs) = eqb b digit0 && none bs

-- "a non-zero digit and digits"
unfoldable pub positive : List ℕ → Bool
positive [] = false
positive (b ∷ bs) = not (eqb b digit0) && digit b && digits bs

-- one `-` "before the non-zero digit"
unfoldable pub negative : List ℕ → Bool
negative [] = false
negative (b ∷ bs) = eqb b hyphen && positive bs

unfoldable pub natural_form : List ℕ → Bool
natural_form bs = zero_alone bs || positive bs

unfoldable pub integer_form : List ℕ → Bool
integer_form bs = natural_form bs || negative bs

-- `-` alone
unfoldable pub dash : List ℕ → Bool
dash [] = false
dash (b ∷ bs) = eqb b hyphen && none bs

-- ---- the value, "in base ten"

-- of digits that follow those of the value v
unfoldable pub value_from : ℕ → List ℕ → ℕ
value_from v [] = v
value_from v (b ∷ bs) = value_from (v * 10 + (b - digit0)) bs

unfoldable pub value_of : List ℕ → ℕ
value_of bs = value_from 0 bs

unfoldable pub integer_value : List ℕ → ℤ
integer_value [] = pos 0
integer_value (b ∷ bs) = cond (eqb b hyphen) (neg_ℤ (pos (value_of bs))) (pos (value_of (b ∷ bs)))

-- ---- the answer: the value, not of the number form, or outside its range

-- "field not of the number form" is 2, "number outside its range" 3
abbrev pub fault_number : Fault → ℕ
fault_number Form = 2
fault_number Range = 3

unfoldable pub in_natural_range : ℕ → ℕ → ℕ → Result ℕ Fault
in_natural_range low high v = cond (leb low v && leb v high) (Ok v) (Err Range)

-- for an unsigned number from low to high
unfoldable pub natural_of : ℕ → ℕ → List ℕ → Result ℕ Fault
natural_of low high bs = cond (natural_form bs) (in_natural_range low high (value_of bs)) (Err Form)

-- −2147483648 to 2147483647
unfoldable pub in_signed_range : ℤ → Result ℤ Fault
in_signed_range z = cond (le_z (negsuc 2147483647) z && le_z z (pos 2147483647)) (Ok z) (Err Range)

-- for a reading or k
unfoldable pub integer_of : List ℕ → Result ℤ Fault
integer_of bs = cond (integer_form bs) (in_signed_range (integer_value bs)) (Err Form)
