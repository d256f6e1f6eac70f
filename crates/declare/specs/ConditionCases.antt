-- Cases of comparisons and conditions.
use Rattle.std.specs.Prelude.{Bool, true, false, List, [], ◌∷◌, ℕ, ℤ, pos, negsuc, Some}
use Rattle.declare.specs.Types.{Event, Operator, Equal, NotEqual, Less, AtMost, Greater, AtLeast, Constant, Activation, Condition}
use Rattle.declare.specs.Conditions.{tests_of, met}
use Rattle.declare.specs.Reachability.{satisfiable}
use Rattle.declare.specs.EdgeCycles.{compare, always, when, event, reads}

pub record Check : Type 0 where
  pub found : Bool
  pub expected : Bool

infix 80 ◌gives◌
abbrev pub ◌gives◌ : Bool → Bool → Check
◌gives◌ s t = record { found = s; expected = t }

-- ---- comparisons: whether reading 1 meets one, and whether any reading can

abbrev pub meets : Operator → ℤ → ℤ → Bool
meets operator x k = met (when operator (Constant k)) (event 0 1) (reads 0 2 x)

abbrev pub can : Operator → ℤ → Bool
can operator k = satisfiable (tests_of (event 0 1) (when operator (Constant k)))

-- against reading 1 of an activation that reads v, plus k
abbrev pub can_with : Operator → ℤ → ℤ → Bool
can_with operator v k = satisfiable (tests_of (reads 0 1 v) (when operator (Activation 1 k)))

abbrev pub MIN : ℤ
MIN = negsuc 2147483647

abbrev pub MAX : ℤ
MAX = pos 2147483647

unfoldable pub comparisons : List Check
comparisons =
    meets Equal (pos 4) (pos 5) gives false
    ∷ meets Equal (pos 5) (pos 5) gives true
    ∷ meets Equal (pos 6) (pos 5) gives false
    ∷ meets NotEqual (pos 4) (pos 5) gives true
    ∷ meets NotEqual (pos 5) (pos 5) gives false
    ∷ meets NotEqual (pos 6) (pos 5) gives true
    ∷ meets Less (pos 4) (pos 5) gives true
    ∷ meets Less (pos 5) (pos 5) gives false
    ∷ meets Less (pos 6) (pos 5) gives false
    ∷ meets AtMost (pos 4) (pos 5) gives true
    ∷ meets AtMost (pos 5) (pos 5) gives true
    ∷ meets AtMost (pos 6) (pos 5) gives false
    ∷ meets Greater (pos 4) (pos 5) gives false
    ∷ meets Greater (pos 5) (pos 5) gives false
    ∷ meets Greater (pos 6) (pos 5) gives true
    ∷ meets AtLeast (pos 4) (pos 5) gives false
    ∷ meets AtLeast (pos 5) (pos 5) gives true
    ∷ meets AtLeast (pos 6) (pos 5) gives true
    -- the ends of the range
    ∷ can Equal MIN gives true
    ∷ can Equal MAX gives true
    ∷ can NotEqual MIN gives true
    ∷ can NotEqual MAX gives true
    ∷ can Less MIN gives false
    ∷ can Less (negsuc 2147483646) gives true
    ∷ can AtMost MIN gives true
    ∷ can Greater MAX gives false
    ∷ can Greater (pos 2147483646) gives true
    ∷ can AtLeast MAX gives true
    -- sums that pass it
    ∷ can_with Equal MAX (pos 1) gives false
    ∷ can_with Equal MAX (pos 0) gives true
    ∷ can_with Equal MIN (negsuc 0) gives false
    ∷ can_with NotEqual MAX (pos 1) gives true
    ∷ can_with Less MIN (pos 0) gives false
    ∷ can_with Less MIN (pos 1) gives true
    ∷ can_with AtMost MIN (negsuc 0) gives false
    ∷ can_with AtMost MIN (pos 0) gives true
    ∷ can_with Greater MAX (pos 0) gives false
    ∷ can_with Greater MAX (negsuc 0) gives true
    ∷ can_with AtLeast MAX (pos 1) gives false
    ∷ can_with AtLeast MAX (pos 0) gives true
    ∷ can_with Greater MIN (negsuc 0) gives true
    -- a blank on either side
    ∷ met (when NotEqual (Constant (pos 5))) (event 0 1) (event 0 2) gives false
    ∷ met (when Equal (Activation 1 (pos 0))) (event 0 1) (reads 0 2 (pos 0)) gives false
    ∷ met (when NotEqual (Activation 1 (pos 0))) (event 0 1) (reads 0 2 (pos 0)) gives false
    ∷ met (when Equal (Activation 1 (pos 0))) (event 0 1) (event 0 2) gives false
    ∷ satisfiable (tests_of (event 0 1) (when NotEqual (Activation 1 (pos 0)))) gives false
    -- an empty condition is met
    ∷ met always (event 0 1) (event 0 2) gives true
    ∷ []

-- ---- readings by number, conditions of several comparisons

abbrev pub four : Event
four =
    record {
      time = 0;
      activity = 1;
      reading1 = Some (pos 11);
      reading2 = Some (pos 12);
      reading3 = Some (pos 13);
      reading4 = Some (pos 14);
    }

abbrev pub each : ℕ → ℤ → ℤ → ℤ → ℤ → Condition
each count a b c d =
    record {
      count = count;
      first = compare 1 Equal (Constant a);
      second = compare 2 Equal (Constant b);
      third = compare 3 Equal (Constant c);
      fourth = compare 4 Equal (Constant d);
    }

-- the next event's reading 1, against reading g of the activation
abbrev pub reading : ℕ → ℤ → Bool
reading g v = met (when Equal (Activation g (pos 0))) four (reads 0 2 v)

unfoldable pub conditions : List Check
conditions =
    reading 1 (pos 11) gives true
    ∷ reading 2 (pos 12) gives true
    ∷ reading 3 (pos 13) gives true
    ∷ reading 4 (pos 14) gives true
    ∷ reading 0 (pos 11) gives false
    ∷ reading 5 (pos 14) gives false
    ∷ met (each 4 (pos 11) (pos 12) (pos 13) (pos 14)) four four gives true
    ∷ met (each 4 (pos 11) (pos 12) (pos 13) (pos 15)) four four gives false
    ∷ met (each 3 (pos 11) (pos 12) (pos 13) (pos 15)) four four gives true
    ∷ met (each 3 (pos 11) (pos 12) (pos 15) (pos 14)) four four gives false
    ∷ met (each 2 (pos 11) (pos 15) (pos 13) (pos 14)) four four gives false
    ∷ met (each 1 (pos 15) (pos 12) (pos 13) (pos 14)) four four gives false
    ∷ []
