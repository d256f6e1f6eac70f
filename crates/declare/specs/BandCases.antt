-- Cases of several comparisons on one reading (document 02, Card 6): "judged over all comparisons
-- on a reading jointly".
use Rattle.std.specs.Prelude.{Bool, true, false, List, [], ◌∷◌, ℕ, ℤ, pos, negsuc, None}
use Rattle.declare.specs.Types.{Operator, Equal, NotEqual, Less, AtMost, Greater, AtLeast, Constant, Activation, Comparison, Condition, Rule, Idle, Open, Fulfilled, Violated}
use Rattle.declare.specs.Conditions.{tests_of, met}
use Rattle.declare.specs.Reachability.{satisfiable}
use Rattle.declare.specs.EdgeCycles.{Case, ◌is◌, compare, unused, always, window, rule, event, reads, live}
use Rattle.declare.specs.ConditionCases.{Check, ◌gives◌, MIN, MAX}
use Rattle.declare.specs.OverallCases.{overall}

-- reading 1 against k, and against reading 1 of the activation plus k
abbrev pub one : Operator → ℤ → Comparison
one operator k = compare 1 operator (Constant k)

abbrev pub one_with : Operator → ℤ → Comparison
one_with operator k = compare 1 operator (Activation 1 k)

abbrev pub two : Comparison → Comparison → Condition
two a b = record { count = 2; first = a; second = b; third = unused; fourth = unused }

abbrev pub three : Comparison → Comparison → Comparison → Condition
three a b c = record { count = 3; first = a; second = b; third = c; fourth = unused }

abbrev pub four : Comparison → Comparison → Comparison → Comparison → Condition
four a b c d = record { count = 4; first = a; second = b; third = c; fourth = d }

-- some event can meet it, after an activation without readings, and after one that reads v
abbrev pub can : Condition → Bool
can condition = satisfiable (tests_of (event 0 1) condition)

abbrev pub can_after : ℤ → Condition → Bool
can_after v condition = satisfiable (tests_of (reads 0 1 v) condition)

-- "above 5 and below 7 leaves 6, and adding "not 6" leaves none"
abbrev pub leaves6 : Condition
leaves6 = two (one Greater (pos 5)) (one Less (pos 7))

abbrev pub leaves_none : Condition
leaves_none = three (one Greater (pos 5)) (one Less (pos 7)) (one NotEqual (pos 6))

-- from 5 to 6, without these two
abbrev pub from5to6 : ℤ → ℤ → Condition
from5to6 j k = four (one AtLeast (pos 5)) (one AtMost (pos 6)) (one NotEqual j) (one NotEqual k)

-- the lowest readings up to k and the highest from k on, without three at the end of the range
abbrev pub lowest : ℤ → Condition
lowest k =
    four (one NotEqual MIN) (one NotEqual (negsuc 2147483646)) (one NotEqual (negsuc 2147483645)) (one AtMost k)

abbrev pub highest : ℤ → Condition
highest k = four (one AtLeast k) (one NotEqual MAX) (one NotEqual (pos 2147483646)) (one NotEqual (pos 2147483645))

unfoldable pub bands : List Check
bands =
    met leaves6 (event 0 1) (reads 0 2 (pos 5)) gives false
    ∷ met leaves6 (event 0 1) (reads 0 2 (pos 6)) gives true
    ∷ met leaves6 (event 0 1) (reads 0 2 (pos 7)) gives false
    ∷ met leaves6 (event 0 1) (event 0 2) gives false
    ∷ can leaves6 gives true
    ∷ can leaves_none gives false
    -- a comparison of another reading, wherever it stands, leaves this one free
    ∷ can (three (one Greater (pos 5)) (one Less (pos 7)) (compare 2 NotEqual (Constant (pos 6)))) gives true
    ∷ can (three (compare 2 NotEqual (Constant (pos 6))) (one Greater (pos 5)) (one Less (pos 7))) gives true
    ∷ can (three (one Greater (pos 5)) (compare 2 NotEqual (Constant (pos 6))) (one Less (pos 6))) gives false
    -- a number left out twice is left out once
    ∷ can (from5to6 (pos 5) (pos 5)) gives true
    ∷ can (from5to6 (pos 6) (pos 6)) gives true
    ∷ can (from5to6 (pos 5) (pos 6)) gives false
    ∷ can (from5to6 (pos 4) (pos 7)) gives true
    ∷ can (two (one Equal (pos 5)) (one Equal (pos 5))) gives true
    ∷ can (two (one Equal (pos 5)) (one Equal (pos 6))) gives false
    ∷ can (two (one Equal (pos 5)) (one NotEqual (pos 5))) gives false
    -- both ends of the range
    ∷ can (lowest (negsuc 2147483645)) gives false
    ∷ can (lowest (negsuc 2147483644)) gives true
    ∷ can (highest (pos 2147483645)) gives false
    ∷ can (highest (pos 2147483644)) gives true
    -- sums beyond 32 bits, alone and beside numbers in the range
    ∷ can_after MAX (two (one_with Greater (pos 5)) (one_with Less (pos 7))) gives false
    ∷ can_after MAX (two (one_with Greater (negsuc 0)) (one_with Less (pos 5))) gives true
    ∷ can_after MAX (three (one_with Greater (negsuc 0)) (one_with Less (pos 5)) (one NotEqual MAX)) gives false
    ∷ can_after MIN (two (one_with Greater (negsuc 6)) (one_with Less (negsuc 4))) gives false
    ∷ can_after MIN (two (one_with Greater (negsuc 4)) (one_with Less (pos 1))) gives true
    ∷ can_after MIN (three (one_with Greater (negsuc 4)) (one_with Less (pos 1)) (one NotEqual MIN)) gives false
    ∷ can_after (pos 4) (two (one_with Greater (pos 1)) (one Less (pos 7))) gives true
    ∷ can_after (pos 4) (three (one_with Greater (pos 1)) (one Less (pos 7)) (one_with NotEqual (pos 2))) gives false
    -- against a blank none holds, whatever the others leave
    ∷ can (two (one AtLeast (pos 5)) (one_with NotEqual (pos 0))) gives false
    ∷ []

-- a rule of this code with the band as its correlation, and as its activation condition
abbrev pub towards : ℕ → Condition → Rule
towards code band = rule code 2 (window 0 None) band

abbrev pub from6 : Rule
from6 =
    record { code = 2; activation = 1; target = 2; window = window 0 None; condition = leaves6; correlation = always }

unfoldable pub banded : List Case
banded =
    live (towards 2 leaves6) (event 0 1 ∷ []) 1 is Open
    ∷ live (towards 2 leaves6) (event 0 1 ∷ reads 0 2 (pos 5) ∷ reads 0 2 (pos 7) ∷ []) 1 is Open
    ∷ live (towards 2 leaves6) (event 0 1 ∷ reads 0 2 (pos 5) ∷ reads 0 2 (pos 6) ∷ []) 1 is Fulfilled 3
    -- "so a response stands violated on arrival"
    ∷ live (towards 2 leaves_none) (event 0 1 ∷ []) 1 is Violated 0
    ∷ live (towards 1 leaves_none) (event 0 1 ∷ []) 1 is Violated 0
    ∷ live (towards 3 leaves_none) (event 0 1 ∷ []) 1 is Violated 0
    ∷ live (towards 4 leaves_none) (event 0 1 ∷ []) 1 is Violated 0
    ∷ live (towards 8 leaves_none) (event 0 1 ∷ []) 1 is Fulfilled 0
    ∷ live (towards 9 leaves_none) (event 0 1 ∷ []) 1 is Fulfilled 0
    ∷ live (towards 11 leaves_none) (event 0 1 ∷ []) 1 is Fulfilled 0
    -- by the activation's reading
    ∷ live (towards 2 (two (one_with Greater (pos 5)) (one_with Less (pos 7)))) (reads 0 1 (pos 2147483641) ∷ []) 1 is Open
    ∷ live (towards 2 (two (one_with Greater (pos 5)) (one_with Less (pos 7)))) (reads 0 1 (pos 2147483642) ∷ []) 1 is Violated 0
    -- an activation condition
    ∷ live from6 (reads 0 1 (pos 5) ∷ []) 1 is Idle
    ∷ live from6 (reads 0 1 (pos 6) ∷ []) 1 is Open
    ∷ live from6 (reads 0 1 (pos 7) ∷ []) 1 is Idle
    -- position 0, before the first event and after it
    ∷ live (overall 13 0 None leaves6) [] 0 is Open
    ∷ live (overall 13 0 None leaves6) (reads 0 1 (pos 5) ∷ []) 0 is Open
    ∷ live (overall 13 0 None leaves6) (reads 0 1 (pos 6) ∷ []) 0 is Fulfilled 1
    ∷ live (overall 13 0 None leaves_none) [] 0 is Violated 0
    ∷ live (overall 14 0 None leaves_none) [] 0 is Fulfilled 0
    ∷ live (overall 15 0 None leaves_none) [] 0 is Violated 0
    ∷ live (overall 16 0 None leaves_none) [] 0 is Violated 0
    ∷ live (overall 13 0 None leaves_none) (reads 0 1 (pos 6) ∷ []) 0 is Violated 0
    ∷ []
