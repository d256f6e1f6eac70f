-- Cases of takes and clock notices: what they are refused for, what a list of them comes to, and
-- what a notice decides.
use Rattle.std.specs.Prelude.{List, [], ◌∷◌, map, ℕ, None, Some}
use Rattle.declare.specs.Types.{Event, Open, Fulfilled, Violated}
use Rattle.declare.specs.Answers.{Answer, accepted, refused}
use Rattle.declare.specs.Steps.{Call, takes, notices, admits, course, taken}
use Rattle.declare.specs.EdgeCycles.{Case, ◌is◌, always, rule, window, event, noticed, soon}
use Rattle.declare.specs.OverallCases.{overall}

-- "refused with 3, else .. with 7, else .. with 8": at both sides of each limit, and an earlier
-- cause before a later one; a notice is never refused with 8
unfoldable pub offers : List (Answer (Unit {0}))
offers =
    admits 0 5 (takes (event 5 64))
    ∷ admits 255 5 (takes (event 5 1))
    ∷ admits 0 5 (takes (event 5 65))
    ∷ admits 0 5 (takes (event 4 1))
    ∷ admits 256 5 (takes (event 5 1))
    ∷ admits 256 5 (takes (event 4 65))
    ∷ admits 256 5 (takes (event 4 1))
    ∷ admits 256 5 (notices 5)
    ∷ admits 0 5 (notices 4294967295)
    ∷ admits 256 5 (notices 4)
    ∷ admits 0 5 (notices 4294967296)
    ∷ admits 0 4294967297 (notices 4294967296)
    ∷ []

unfoldable pub answers : List (Answer (Unit {0}))
answers =
    accepted tt
    ∷ accepted tt
    ∷ refused 3
    ∷ refused 7
    ∷ refused 8
    ∷ refused 3
    ∷ refused 7
    ∷ accepted tt
    ∷ accepted tt
    ∷ refused 7
    ∷ refused 3
    ∷ refused 3
    ∷ []

-- an event, one out of range, one too early; then a notice, an event and a notice before it, an
-- event and a notice at its time
unfoldable pub mixed : List Call
mixed =
    takes (event 3 1)
    ∷ takes (event 9 65)
    ∷ takes (event 2 1)
    ∷ takes (event 3 2)
    ∷ notices 8
    ∷ takes (event 7 1)
    ∷ notices 6
    ∷ takes (event 8 1)
    ∷ notices 8
    ∷ []

-- an event later than the last notice: a notice between the two is refused
unfoldable pub overtaken : List Call
overtaken = notices 5 ∷ takes (event 9 1) ∷ notices 8 ∷ []

abbrev pub taken_times : List Call → List ℕ
taken_times calls = map (λ (e : Event). e.time) (taken calls)

abbrev pub clock_after : List Call → ℕ
clock_after calls = (course calls).clock

-- a window that ends while no event comes
unfoldable pub lapses : List Case
lapses =
    -- C2 with a notice in place of the last event
    noticed soon (event 0 1 ∷ []) 499 1 is Open
    ∷ noticed soon (event 0 1 ∷ []) 500 1 is Violated 0
    -- the later of the two counts, whichever it is
    ∷ noticed soon (event 0 1 ∷ event 499 9 ∷ []) 1 1 is Open
    ∷ noticed soon (event 0 1 ∷ event 500 9 ∷ []) 1 1 is Violated 0
    ∷ noticed soon (event 0 1 ∷ event 1 9 ∷ []) 500 1 is Violated 0
    -- not response is fulfilled then
    ∷ noticed (rule 9 2 (window 0 (Some 500)) always) (event 0 1 ∷ []) 499 1 is Open
    ∷ noticed (rule 9 2 (window 0 (Some 500)) always) (event 0 1 ∷ []) 500 1 is Fulfilled 0
    -- chain response at the last position, whose next event is still to come
    ∷ noticed (rule 4 2 (window 0 (Some 500)) always) (event 0 1 ∷ []) 499 1 is Open
    ∷ noticed (rule 4 2 (window 0 (Some 500)) always) (event 0 1 ∷ []) 500 1 is Violated 0
    -- a notice stands between no neighbours
    ∷ noticed (rule 4 2 (window 0 (Some 500)) always) (event 0 1 ∷ event 1 2 ∷ []) 500 1 is Fulfilled 2
    -- without an end a window stays open, to the last time there is
    ∷ noticed (rule 2 2 (window 0 None) always) (event 0 1 ∷ []) 4294967295 1 is Open
    ∷ noticed (rule 2 2 (window 4294967295 None) always) (event 0 1 ∷ []) 4294967295 1 is Open
    -- at position 0: the window from the first event
    ∷ noticed (overall 13 0 (Some 500) always) (event 100 9 ∷ []) 599 0 is Open
    ∷ noticed (overall 13 0 (Some 500) always) (event 100 9 ∷ []) 600 0 is Violated 0
    ∷ noticed (overall 14 0 (Some 500) always) (event 100 9 ∷ []) 600 0 is Fulfilled 0
    -- and without events, if the first one comes too late for a
    ∷ noticed (overall 13 95 (Some 100) always) [] 4294967200 0 is Open
    ∷ noticed (overall 13 95 (Some 100) always) [] 4294967201 0 is Violated 0
    ∷ noticed (overall 14 95 (Some 100) always) [] 4294967201 0 is Fulfilled 0
    ∷ noticed (overall 15 95 (Some 100) always) [] 4294967201 0 is Violated 0
    ∷ noticed (overall 16 95 (Some 100) always) [] 4294967201 0 is Violated 0
    ∷ []
