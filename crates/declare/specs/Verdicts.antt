-- Eligible events, the target that is named, and the verdict in a finished cycle.
use Rattle.std.specs.Prelude.{Bool, true, false, cond, ◌&&◌, ◌||◌, List, ℕ, zero, suc, eqb, length}
use Rattle.declare.specs.Types.{Event, Rule, Polarity, Positive, Negative, Standing, Idle, Fulfilled, Violated}
use Rattle.declare.specs.Lists.{found, first_up_to, nearest}
use Rattle.declare.specs.Events.{event_at, first_time}
use Rattle.declare.specs.Overall.{overall_of, counts_target, formula}
use Rattle.declare.specs.Suits.{occurs, activation_at, within, between, suits}
use Rattle.declare.specs.Templates.{in_reach, reach_of, polarity_of}

-- under a rule about the cycle: event j has activity k, meets the activation condition, and lies
-- inside the window, which "runs from the time of the first event"
unfoldable pub occurs_at : Rule → List Event → ℕ → ℕ → Bool
occurs_at r es k j =
    occurs r k (event_at es j) && within r.window (between (first_time 0 es) (event_at es j).time)

-- "fits (under 15 and 16, for either activity)"
unfoldable pub fits_at : Rule → List Event → ℕ → Bool
fits_at r es j =
    occurs_at r es r.activation j || (counts_target (overall_of r.code) && occurs_at r es r.target j)

-- "eligible": event j suits the activation i and stands to it as the template asks; for the cycle
-- as such, at position 0, it fits
unfoldable pub eligible : Rule → List Event → ℕ → ℕ → Bool
eligible r es i j =
    cond (eqb i 0) (fits_at r es j)
    (suits r (event_at es i) (event_at es j) && in_reach (reach_of r) (activation_at r es) i j)

-- "the latest eligible position at or before the activation; failing that, the first after it", or
-- 0 if there is none; so at position 0 "the earliest event that fits .., or 0"
unfoldable pub target : Rule → List Event → ℕ → ℕ
target r es i = nearest (eligible r es i) i (length es)

-- what a target says of its activation, 0 for no eligible event
unfoldable pub decided : Polarity → ℕ → Standing
decided Positive zero = Violated 0
decided Positive (suc j) = Fulfilled (suc j)
decided Negative zero = Fulfilled 0
decided Negative (suc j) = Violated (suc j)

-- activity k occurs
unfoldable pub seen : Rule → List Event → ℕ → Bool
seen r es k = found (first_up_to (occurs_at r es k) (length es))

-- the template's formula holds of the cycle
unfoldable pub formula_of : Rule → List Event → Bool
formula_of r es = formula (overall_of r.code) (seen r es r.activation) (seen r es r.target)

abbrev pub fulfilled_if : Bool → ℕ → Standing
fulfilled_if true j = Fulfilled j
fulfilled_if false j = Violated j

-- what the events say of the activation at i
unfoldable pub decision : Rule → List Event → ℕ → Standing
decision r es i =
    cond (eqb i 0) (fulfilled_if (formula_of r es) (target r es i)) (decided (polarity_of r) (target r es i))

-- the standing of position i in a finished cycle
unfoldable pub verdict : Rule → List Event → ℕ → Standing
verdict r es i = cond (activation_at r es i) (decision r es i) Idle
