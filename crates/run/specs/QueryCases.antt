-- Cases of standing and totals, and of the totals that each call stores.
use Rattle.std.specs.Prelude.{Bool, true, false, List, [], ◌∷◌, ℕ, get_or, replicate}
use Rattle.declare.specs.declared.Event.{Event}
use Rattle.declare.specs.declared.Standing.{Standing}
use Rattle.declare.specs.declared.Standing.TheVariants.{Idle, Open, Fulfilled, Violated}
use Rattle.declare.specs.Slots.{event_slots, table_of}
use Rattle.declare.specs.EdgeCycles.{event}
use Rattle.standings.specs.declared.totals.Totals.{Totals}
use Rattle.standings.specs.Totals.{totals_by}
use Rattle.run.specs.declared.Run.{Run}
use Rattle.run.specs.Records.{totals_in, stored_totals, with_totals}
use Rattle.run.specs.Start.{started}
use Rattle.run.specs.Calls.{judged_run}
use Rattle.run.specs.Close.{closed_run, finished_run}
use Rattle.run.specs.Queries.{one_of, is_position}
use Rattle.run.specs.RecordCases.{Case, ◌is◌, coded, record_with, of_cycle, totals}

-- "positions, rules and lines count from 1"
unfoldable pub numbers : List (Case Bool)
numbers = one_of 3 0 is false ∷ one_of 3 1 is true ∷ one_of 3 3 is true ∷ one_of 3 4 is false ∷ []

-- rule 1 is about the cycle, rule 2 is not; of 3 events
abbrev pub position : ℕ → ℕ → Bool
position k i = is_position (record { count = 2; rules = coded 13 ∷ coded 9 ∷ coded 13 ∷ [] }) 3 k i

unfoldable pub positions : List (Case Bool)
positions =
    position 1 0 is true
    ∷ position 2 0 is false
    ∷ position 3 0 is false
    ∷ position 1 1 is true
    ∷ position 2 3 is true
    ∷ position 1 4 is false
    ∷ position 2 4 is false
    ∷ []

-- the standing of each of the positions 0 to 8
abbrev pub stands : ℕ → Standing
stands i =
    get_or (Violated 0 ∷ Idle ∷ Open ∷ Fulfilled 3 ∷ Violated 1 ∷ Fulfilled 0 ∷ Idle ∷ Violated 0 ∷ Fulfilled 2 ∷ []) i Idle

-- of the first positions, position by position, from 0 on
unfoldable pub counts : List (Case Totals)
counts =
    totals_by stands 0 is totals 1 0 1 0
    ∷ totals_by stands 1 is totals 1 0 1 0
    ∷ totals_by stands 2 is totals 2 0 1 1
    ∷ totals_by stands 3 is totals 3 1 1 1
    ∷ totals_by stands 4 is totals 4 1 2 1
    ∷ totals_by stands 5 is totals 5 2 2 1
    ∷ totals_by stands 6 is totals 5 2 2 1
    ∷ totals_by stands 7 is totals 6 2 3 1
    ∷ totals_by stands 8 is totals 7 3 3 1
    -- of a run: position 0 of a rule about the cycle, and not of another
    ∷ totals_in (of_cycle true 2 1 [] (Fulfilled 1 ∷ Fulfilled 1 ∷ [])) 1 is totals 1 1 0 0
    ∷ totals_in (of_cycle true 2 1 [] (Fulfilled 1 ∷ Fulfilled 1 ∷ [])) 2 is totals 0 0 0 0
    ∷ []

-- the stored totals of the first two slots
abbrev pub stored_of : Run → List Totals
stored_of r = stored_totals r 1 ∷ stored_totals r 2 ∷ []

-- exclusive choice and response of 1 by 2, of the first k; the slots past them hold 9
abbrev pub stored_after : (Run → Run) → ℕ → List Event → List Totals
stored_after call k events =
    stored_of
    (call
    (with_totals (record_with false (coded 16 ∷ coded 2 ∷ []) k events 2 (replicate 258 Idle) (Open ∷ [])) (totals 9 9 9 9 ∷ totals 9 9 9 9 ∷ [])))

unfoldable pub kept_totals : List (Case (List Totals))
kept_totals =
    stored_of (started (table_of (coded 16 ∷ coded 2 ∷ []))) is (totals 1 0 0 1 ∷ totals 0 0 0 0 ∷ [])
    ∷ stored_after judged_run 2 (event 0 1 ∷ event 1 1 ∷ []) is (totals 1 0 0 1 ∷ totals 2 0 0 2 ∷ [])
    ∷ stored_after judged_run 2 (event 0 1 ∷ event 1 2 ∷ []) is (totals 1 0 1 0 ∷ totals 1 1 0 0 ∷ [])
    ∷ stored_after judged_run 1 (event 0 1 ∷ event 1 2 ∷ []) is (totals 1 0 1 0 ∷ totals 9 9 9 9 ∷ [])
    ∷ stored_after (λ r. closed_run (judged_run r)) 2 (event 0 1 ∷ event 1 1 ∷ []) is (totals 1 1 0 0 ∷ totals 2 0 2 0 ∷ [])
    ∷ stored_after (λ r. closed_run (judged_run r)) 1 (event 0 1 ∷ event 1 1 ∷ []) is (totals 1 1 0 0 ∷ totals 9 9 9 9 ∷ [])
    ∷ stored_of (finished_run (table_of (coded 16 ∷ coded 2 ∷ [])) 2 (event_slots (event 0 1 ∷ event 1 1 ∷ []))) is (totals 1 1 0 0 ∷ totals 2 0 2 0 ∷ [])
    ∷ []
