-- The number reader: it is handed a number's bytes one after another, each once, and keeps a
-- running value but no bytes.
use Rattle.std.specs.Prelude.{◌≡◌, Bool, true, false, cond, List, [], ◌∷◌, ◌++◌, ℕ, ◌+◌, ◌-◌, ◌*◌, ◌<◌, ltb, eqb, ℤ, pos, neg_ℤ, Result, Err}
use Rattle.number.specs.Types.{Reader, Empty, Minus, Zero, Digits, Malformed, Fault, Form}
use Rattle.number.specs.Number.{digit0, hyphen, digit, dash, in_natural_range, natural_of, in_signed_range, integer_of}

-- ---- a step

-- above every range: a value from here on is not followed further
unfoldable pub bound : ℕ
bound = 4294967296

-- the value v with one digit more
unfoldable pub extended : ℕ → ℕ → ℕ
extended v d = cond (ltb v bound) (v * 10 + d) v

-- a byte where the non-zero digit is to stand
unfoldable pub first_digit : Bool → ℕ → Reader
first_digit n b = cond (eqb b digit0) Malformed (cond (digit b) (Digits n (b - digit0)) Malformed)

-- the reader after one byte more
unfoldable pub pushed : Reader → ℕ → Reader
pushed Empty b = cond (eqb b hyphen) Minus (cond (eqb b digit0) Zero (first_digit false b))
pushed Minus b = first_digit true b
pushed Zero b = Malformed
pushed (Digits n v) b = cond (digit b) (Digits n (extended v (b - digit0))) Malformed
pushed Malformed b = Malformed

-- the reader after further bytes
unfoldable pub after : Reader → List ℕ → Reader
after r [] = r
after r (b ∷ bs) = after (pushed r b) bs

-- ---- what the reader answers

unfoldable pub natural_in : ℕ → ℕ → Reader → Result ℕ Fault
natural_in low high Empty = Err Form
natural_in low high Minus = Err Form
natural_in low high Zero = in_natural_range low high 0
natural_in low high (Digits true v) = Err Form
natural_in low high (Digits false v) = in_natural_range low high v
natural_in low high Malformed = Err Form

unfoldable pub integer_in : Reader → Result ℤ Fault
integer_in Empty = Err Form
integer_in Minus = Err Form
integer_in Zero = in_signed_range (pos 0)
integer_in (Digits true v) = in_signed_range (neg_ℤ (pos v))
integer_in (Digits false v) = in_signed_range (pos v)
integer_in Malformed = Err Form

-- the bytes are `-` alone
unfoldable pub dash_in : Reader → Bool
dash_in Empty = false
dash_in Minus = true
dash_in Zero = false
dash_in (Digits n v) = false
dash_in Malformed = false

-- ---- what is proved of it, in proofs/Answers and proofs/Once

-- document 01's answer for the bytes so far, unsigned and signed
pub record AnswersExactly (bs : List ℕ) : Type 0 where
  pub natural : (low high : ℕ) → high < bound → natural_in low high (after Empty bs) ≡ natural_of low high bs
  pub integer : integer_in (after Empty bs) ≡ integer_of bs
  pub dashed : dash_in (after Empty bs) ≡ dash bs

-- document 02, "Read each digit a single time"
pub record ReadsOnce : Type 0 where
  -- "asked at any point, it gives for the bytes so far exactly document 01's answer, for strings of
  -- any length"
  pub exact : (bs : List ℕ) → AnswersExactly bs
  -- "handed a number's bytes one after another, each once": however they are divided, bytes handed
  -- on in parts give what they give together
  pub parts : (r : Reader) (xs ys : List ℕ) → after (after r xs) ys ≡ after r (xs ++ ys)
  -- "keep a running value but no bytes": a state has at most a sign and a value, and no number of
  -- bytes takes the value further than this
  pub kept : (bs : List ℕ) (n : Bool) (v : ℕ) → after Empty bs ≡ Digits n v → v < 10 * bound
