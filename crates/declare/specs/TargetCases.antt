-- Cases that tell the target nearest to the activation from the earliest and from the latest.
use Rattle.std.specs.Prelude.{List, [], ◌∷◌, ℕ, suc, None, Some}
use Rattle.declare.specs.Types.{Event, Rule, Open, Fulfilled, Violated}
use Rattle.declare.specs.Verdicts.{verdict}
use Rattle.declare.specs.EdgeCycles.{Case, ◌is◌, always, window, rule, event, live}
use Rattle.declare.specs.TemplateCases.{plain}

-- events with these activities, one each millisecond
unfoldable pub events_from : ℕ → List ℕ → List Event
events_from time [] = []
events_from time (a ∷ activities) = event time a ∷ events_from (suc time) activities

abbrev pub events : List ℕ → List Event
events activities = events_from 0 activities

-- activation and target are the same activity
abbrev pub itself : ℕ → Rule
itself code = rule code 1 (window 0 None) always

unfoldable pub targets : List Case
targets =
    -- two before and one after: the later of the two
    verdict (plain 1) (events (2 ∷ 2 ∷ 9 ∷ 1 ∷ 2 ∷ [])) 4 is Fulfilled 2
    ∷ verdict (plain 8) (events (2 ∷ 2 ∷ 9 ∷ 1 ∷ 2 ∷ [])) 4 is Violated 2
    ∷ verdict (plain 5) (events (2 ∷ 2 ∷ 9 ∷ 1 ∷ 2 ∷ [])) 4 is Fulfilled 2
    ∷ verdict (plain 10) (events (2 ∷ 2 ∷ 9 ∷ 1 ∷ 2 ∷ [])) 4 is Violated 2
    -- none before and two after: the first
    ∷ verdict (plain 1) (events (9 ∷ 1 ∷ 9 ∷ 2 ∷ 2 ∷ [])) 2 is Fulfilled 4
    ∷ verdict (plain 8) (events (9 ∷ 1 ∷ 9 ∷ 2 ∷ 2 ∷ [])) 2 is Violated 4
    ∷ verdict (plain 2) (events (9 ∷ 1 ∷ 9 ∷ 2 ∷ 2 ∷ [])) 2 is Fulfilled 4
    ∷ verdict (plain 9) (events (9 ∷ 1 ∷ 9 ∷ 2 ∷ 2 ∷ [])) 2 is Violated 4
    ∷ verdict (plain 3) (events (9 ∷ 1 ∷ 9 ∷ 2 ∷ 2 ∷ [])) 2 is Fulfilled 4
    -- between two activations, the later
    ∷ verdict (plain 6) (events (2 ∷ 1 ∷ 2 ∷ 2 ∷ 9 ∷ 1 ∷ 2 ∷ [])) 6 is Fulfilled 4
    -- one before and one next to it, after: before comes first, however far
    ∷ verdict (plain 1) (events (2 ∷ 9 ∷ 9 ∷ 1 ∷ 2 ∷ [])) 4 is Fulfilled 1
    -- itself, where it is eligible
    ∷ verdict (itself 1) (events (1 ∷ 1 ∷ 1 ∷ [])) 2 is Fulfilled 2
    ∷ verdict (itself 2) (events (1 ∷ 1 ∷ 1 ∷ [])) 2 is Fulfilled 2
    ∷ verdict (itself 5) (events (1 ∷ 1 ∷ 1 ∷ [])) 2 is Fulfilled 2
    ∷ verdict (itself 8) (events (1 ∷ 1 ∷ 1 ∷ [])) 2 is Violated 2
    ∷ verdict (itself 9) (events (1 ∷ 1 ∷ 1 ∷ [])) 2 is Violated 2
    ∷ verdict (itself 10) (events (1 ∷ 1 ∷ 1 ∷ [])) 2 is Violated 2
    -- else the one before, or next to it
    ∷ verdict (itself 6) (events (1 ∷ 1 ∷ 1 ∷ [])) 3 is Fulfilled 2
    ∷ verdict (itself 3) (events (1 ∷ 1 ∷ 1 ∷ [])) 1 is Fulfilled 2
    -- window 2 to 4: those nearer by are not eligible
    ∷ verdict (rule 5 2 (window 2 (Some 4)) always) (events (2 ∷ 2 ∷ 2 ∷ 2 ∷ 2 ∷ 1 ∷ [])) 6 is Fulfilled 4
    ∷ verdict (rule 2 2 (window 2 (Some 4)) always) (events (1 ∷ 2 ∷ 2 ∷ 2 ∷ 2 ∷ 2 ∷ [])) 1 is Fulfilled 3
    -- while the cycle runs: the same, and further events change nothing
    ∷ live (plain 1) (events (2 ∷ 2 ∷ 1 ∷ [])) 3 is Fulfilled 2
    ∷ live (plain 1) (events (2 ∷ 2 ∷ 1 ∷ 2 ∷ [])) 3 is Fulfilled 2
    ∷ live (plain 8) (events (1 ∷ [])) 1 is Open
    ∷ live (plain 8) (events (1 ∷ 2 ∷ [])) 1 is Violated 2
    ∷ live (plain 8) (events (1 ∷ 2 ∷ 2 ∷ [])) 1 is Violated 2
    ∷ []
