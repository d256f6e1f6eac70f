-- Cases of the rules about the cycle as such, at position 0, and at events.
use Rattle.std.specs.Prelude.{List, [], ◌∷◌, ℕ, pos, None, Some}
use Rattle.declare.specs.Types.{Less, Greater, Constant, Condition, End, Rule, Idle, Open, Fulfilled, Violated}
use Rattle.declare.specs.Verdicts.{verdict}
use Rattle.declare.specs.Steps.{closed}
use Rattle.declare.specs.EdgeCycles.{Case, ◌is◌, always, when, window, event, reads, live}
use Rattle.declare.specs.TemplateCases.{plain}
use Rattle.declare.specs.ConditionCases.{MIN}

-- of the activities 1 and 2
abbrev pub overall : ℕ → ℕ → End → Condition → Rule
overall code a b condition =
    record { code = code; activation = 1; target = 2; window = window a b; condition = condition; correlation = always }

-- no reading meets it
abbrev pub never : Condition
never = when Less (Constant MIN)

abbrev pub above5 : Condition
above5 = when Greater (Constant (pos 5))

unfoldable pub starts : List Case
starts =
    -- before the first event: open, unless no event can fit
    live (overall 13 0 None always) [] 0 is Open
    ∷ live (overall 14 0 None always) [] 0 is Open
    ∷ live (overall 15 0 None always) [] 0 is Open
    ∷ live (overall 16 0 None always) [] 0 is Open
    ∷ live (overall 13 4294967295 None always) [] 0 is Open
    ∷ live (overall 13 0 None never) [] 0 is Violated 0
    ∷ live (overall 14 0 None never) [] 0 is Fulfilled 0
    ∷ live (overall 15 0 None never) [] 0 is Violated 0
    ∷ live (overall 16 0 None never) [] 0 is Violated 0
    -- "on an empty closed cycle 14 is fulfilled, the others violated"
    ∷ verdict (overall 13 0 None always) [] 0 is Violated 0
    ∷ verdict (overall 14 0 None always) [] 0 is Fulfilled 0
    ∷ verdict (overall 15 0 None always) [] 0 is Violated 0
    ∷ verdict (overall 16 0 None always) [] 0 is Violated 0
    -- of other rules position 0 is no activation, and of these no event is
    ∷ live (plain 2) (event 0 1 ∷ []) 0 is Idle
    ∷ verdict (plain 12) (event 0 1 ∷ []) 0 is Idle
    ∷ live (overall 13 0 None always) (event 0 1 ∷ []) 1 is Idle
    ∷ verdict (overall 16 0 None always) (event 0 1 ∷ []) 1 is Idle
    ∷ []

unfoldable pub overalls : List Case
overalls =
    -- the window from the first event, a inside and b outside
    live (overall 13 10 (Some 20) always) (event 100 9 ∷ event 109 1 ∷ []) 0 is Open
    ∷ live (overall 13 10 (Some 20) always) (event 100 9 ∷ event 110 1 ∷ []) 0 is Fulfilled 2
    ∷ live (overall 13 10 (Some 20) always) (event 100 9 ∷ event 119 1 ∷ []) 0 is Fulfilled 2
    ∷ live (overall 13 10 (Some 20) always) (event 100 9 ∷ event 120 1 ∷ []) 0 is Violated 0
    ∷ live (overall 13 10 (Some 20) always) (event 100 1 ∷ []) 0 is Open
    ∷ live (overall 13 0 (Some 20) always) (event 100 1 ∷ []) 0 is Fulfilled 1
    ∷ live (overall 13 4294967295 None always) (event 0 9 ∷ []) 0 is Open
    ∷ live (overall 13 4294967295 None always) (event 1 9 ∷ []) 0 is Violated 0
    ∷ live (overall 14 10 (Some 20) always) (event 100 9 ∷ event 110 1 ∷ []) 0 is Violated 2
    ∷ live (overall 14 10 (Some 20) always) (event 100 9 ∷ event 120 9 ∷ []) 0 is Fulfilled 0
    -- 13 and 14 do not look at the target activity, 15 and 16 do
    ∷ live (overall 13 0 None always) (event 0 2 ∷ []) 0 is Open
    ∷ live (overall 14 0 None always) (event 0 2 ∷ []) 0 is Open
    ∷ verdict (overall 13 0 None always) (event 0 2 ∷ event 0 1 ∷ []) 0 is Fulfilled 2
    ∷ live (overall 15 0 None always) (event 0 9 ∷ event 0 2 ∷ event 0 1 ∷ []) 0 is Fulfilled 2
    ∷ live (overall 15 0 None always) (event 0 9 ∷ event 0 1 ∷ event 0 2 ∷ []) 0 is Fulfilled 2
    -- the activation condition is asked of both activities
    ∷ live (overall 13 0 None above5) (reads 0 1 (pos 5) ∷ reads 0 1 (pos 6) ∷ []) 0 is Fulfilled 2
    ∷ live (overall 15 0 None above5) (reads 0 2 (pos 5) ∷ reads 0 2 (pos 6) ∷ []) 0 is Fulfilled 2
    -- exclusive: one side seen stays open while the other may come, then it is fulfilled by that;
    -- both: violated, the earliest named
    ∷ live (overall 16 0 (Some 20) always) (event 0 9 ∷ event 5 2 ∷ []) 0 is Open
    ∷ live (overall 16 0 (Some 20) always) (event 0 9 ∷ event 5 2 ∷ event 20 9 ∷ []) 0 is Fulfilled 2
    ∷ live (overall 16 0 (Some 20) always) (event 0 9 ∷ event 5 2 ∷ event 6 1 ∷ []) 0 is Violated 2
    ∷ live (overall 16 0 (Some 20) always) (event 0 9 ∷ event 5 1 ∷ event 6 2 ∷ []) 0 is Violated 2
    ∷ live (overall 16 0 (Some 20) always) (event 0 9 ∷ event 5 1 ∷ event 20 2 ∷ []) 0 is Fulfilled 2
    ∷ verdict (overall 16 0 (Some 20) always) (event 0 9 ∷ event 5 2 ∷ []) 0 is Fulfilled 2
    -- "close decides an open one by its formula", whatever the record says; a decided one is kept
    ∷ closed (overall 13 0 None always) (event 0 1 ∷ []) 0 Open is Fulfilled 1
    ∷ closed (overall 14 0 None always) (event 0 1 ∷ []) 0 Open is Violated 1
    ∷ closed (overall 14 0 None always) [] 0 Open is Fulfilled 0
    ∷ closed (overall 16 0 None always) (event 0 1 ∷ []) 0 Open is Fulfilled 1
    ∷ closed (overall 13 0 None always) (event 0 1 ∷ []) 0 (Violated 0) is Violated 0
    ∷ closed (plain 2) (event 0 1 ∷ event 0 2 ∷ []) 1 Open is Violated 0
    ∷ []
