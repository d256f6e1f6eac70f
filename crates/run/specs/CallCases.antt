-- Cases of start, take, notice and close, and of a whole cycle judged at once.
use Rattle.std.specs.Prelude.{true, false, List, [], ◌∷◌, ◌++◌, map, ℕ, replicate, Some}
use Rattle.declare.specs.declared.Event.{Event}
use Rattle.declare.specs.declared.Standing.{Standing}
use Rattle.declare.specs.declared.Standing.TheVariants.{Idle, Open, Fulfilled, Violated}
use Rattle.declare.specs.Rules.{no_rule}
use Rattle.declare.specs.Answers.{Answer, accepted, refused, after_call}
use Rattle.declare.specs.Slots.{event_slots, table_of}
use Rattle.declare.specs.EdgeCycles.{always, window, rule, event}
use Rattle.standings.specs.declared.Cell.{Cell}
use Rattle.run.specs.declared.Run.{Run}
use Rattle.run.specs.Records.{with_clock, standing_at}
use Rattle.run.specs.Start.{started}
use Rattle.run.specs.Calls.{judged_run, take_of, notice_of}
use Rattle.run.specs.Close.{closed_run, close_of, running_run, finished_run}
use Rattle.run.specs.RecordCases.{Case, ◌is◌, coded, record_of, standings_of, of_events, of_standings, of_cycle}

-- ---- start

-- the rules of the run that start gives: those of the table, or none if it is refused
unfoldable pub starts : List (Case ℕ)
starts =
    (started (record { count = 1; rules = coded 2 ∷ no_rule ∷ [] })).table.count is 1
    ∷ (started (record { count = 2; rules = coded 2 ∷ no_rule ∷ [] })).table.count is 0
    ∷ []

-- the standings at position 0 that start gives
abbrev pub zeros_of : Run → List Standing
zeros_of r = map (λ (c : Cell). c.standing) r.overall

unfoldable pub zeros : List (Case (List Standing))
zeros =
    zeros_of (started (record { count = 3; rules = coded 2 ∷ coded 13 ∷ coded 14 ∷ coded 15 ∷ [] })) is (Idle ∷ Open ∷ Open ∷ replicate 13 Idle)
    -- judged by the events, closed by the formula; those of other rules stay as they are
    ∷ zeros_of (judged_run (of_cycle false 2 1 [] (Open ∷ Open ∷ Violated 7 ∷ []))) is (Fulfilled 1 ∷ Open ∷ Violated 7 ∷ [])
    ∷ zeros_of (judged_run (of_cycle false 2 1 [] (Violated 0 ∷ Open ∷ []))) is (Violated 0 ∷ Open ∷ [])
    ∷ zeros_of (closed_run (of_cycle false 2 1 [] (Open ∷ Open ∷ Open ∷ []))) is (Fulfilled 1 ∷ Open ∷ Open ∷ [])
    ∷ zeros_of (closed_run (of_cycle false 2 0 [] (Open ∷ Open ∷ []))) is (Violated 0 ∷ Open ∷ [])
    ∷ zeros_of (closed_run (of_cycle false 2 1 [] (Violated 0 ∷ Open ∷ []))) is (Violated 0 ∷ Open ∷ [])
    ∷ []

-- ---- take

-- the standings after a take: response within 500 ms
abbrev pub judged : List Event → ℕ → List Standing → List Standing
judged events n standings =
    standings_of (judged_run (record_of false (rule 2 2 (window 0 (Some 500)) always ∷ []) 1 events n standings))

unfoldable pub judgements : List (Case (List Standing))
judgements =
    -- open until 500 is reached; a slot past the count is not read
    judged (event 0 1 ∷ event 499 1 ∷ event 500 2 ∷ []) 2 (Open ∷ Idle ∷ Idle ∷ []) is (Open ∷ Open ∷ Idle ∷ [])
    ∷ judged (event 0 1 ∷ event 500 1 ∷ event 500 2 ∷ []) 2 (Open ∷ Idle ∷ Idle ∷ []) is (Violated 0 ∷ Open ∷ Idle ∷ [])
    -- what is decided stays, whatever the events say
    ∷ judged (event 0 1 ∷ event 1 1 ∷ event 2 9 ∷ []) 3 (Fulfilled 9 ∷ Violated 9 ∷ Open ∷ []) is (Fulfilled 9 ∷ Violated 9 ∷ Idle ∷ [])
    ∷ []

-- ---- notice

-- response within 500 ms, activated at 3, and a kept time
abbrev pub waiting : ℕ → Run
waiting clock =
    with_clock (record_of false (rule 2 2 (window 0 (Some 500)) always ∷ []) 1 (event 3 1 ∷ []) 1 (Open ∷ [])) clock

abbrev pub over_with : ℕ → Run
over_with clock =
    with_clock (record_of true (rule 2 2 (window 0 (Some 500)) always ∷ []) 1 (event 3 1 ∷ []) 1 (Violated 0 ∷ [])) clock

-- the number that a call is refused with, 0 if it is accepted
abbrev pub number_in : Answer Run → ℕ
number_in (accepted r) = 0
number_in (refused n) = n

unfoldable pub call_numbers : List (Case ℕ)
call_numbers =
    -- not below the last event, nor below the last notice; the last time there is
    number_in (notice_of (waiting 0) 2) is 7
    ∷ number_in (notice_of (waiting 0) 3) is 0
    ∷ number_in (notice_of (waiting 5) 4) is 7
    ∷ number_in (notice_of (waiting 5) 5) is 0
    ∷ number_in (notice_of (waiting 5) 4294967295) is 0
    ∷ number_in (notice_of (waiting 5) 4294967296) is 3
    -- 9 before 3 and 7, 11 before 9
    ∷ number_in (notice_of (over_with 5) 5) is 9
    ∷ number_in (notice_of (over_with 5) 4294967296) is 9
    ∷ number_in (notice_of (over_with 5) 4) is 9
    ∷ number_in (notice_of (record_of true (no_rule ∷ []) 1 [] 0 []) 4294967296) is 11
    -- an event below a notice is 7 too
    ∷ number_in (take_of (waiting 5) (event 4 9)) is 7
    ∷ number_in (take_of (waiting 5) (event 5 9)) is 0
    -- any kept time is valid
    ∷ number_in (notice_of (with_clock (of_events [] 0) 4294967295) 4294967295) is 0
    ∷ []

-- the kept time after a call, and after closing
abbrev pub clock_after : Run → Answer Run → ℕ
clock_after before answer = (after_call before answer).clock

unfoldable pub clocks : List (Case ℕ)
clocks =
    (started (table_of (coded 2 ∷ []))).clock is 0
    ∷ clock_after (waiting 5) (notice_of (waiting 5) 7) is 7
    ∷ clock_after (waiting 5) (notice_of (waiting 5) 4) is 5
    ∷ clock_after (waiting 5) (take_of (waiting 5) (event 9 9)) is 5
    ∷ clock_after (waiting 5) (close_of (waiting 5)) is 5
    ∷ (finished_run (table_of (coded 2 ∷ [])) 1 (event_slots (event 3 1 ∷ []))).clock is 0
    ∷ (running_run (table_of (coded 2 ∷ [])) 1 (event_slots (event 3 1 ∷ [])) 8).clock is 8
    ∷ []

-- the standings after a notice
abbrev pub noticed : Run → ℕ → List Standing
noticed before time = standings_of (after_call before (notice_of before time))

unfoldable pub lapses : List (Case (List Standing))
lapses =
    noticed (waiting 0) 502 is (Open ∷ [])
    ∷ noticed (waiting 0) 503 is (Violated 0 ∷ [])
    -- a refused one decides nothing
    ∷ noticed (waiting 503) 502 is (Open ∷ [])
    -- judged as by a take: what is decided stays, whatever the events say
    ∷ noticed (record_of false (rule 2 2 (window 0 (Some 500)) always ∷ []) 1 (event 3 1 ∷ event 3 1 ∷ []) 2 (Fulfilled 2 ∷ Idle ∷ [])) 503 is (Fulfilled 2 ∷ Violated 0 ∷ [])
    -- all events judged at once, after a notice
    ∷ (standing_at (running_run (table_of (rule 2 2 (window 0 (Some 500)) always ∷ [])) 1 (event_slots (event 3 1 ∷ [])) 502) 1 1 ∷ []) is (Open ∷ [])
    ∷ (standing_at (running_run (table_of (rule 2 2 (window 0 (Some 500)) always ∷ [])) 1 (event_slots (event 3 1 ∷ [])) 503) 1 1 ∷ []) is (Violated 0 ∷ [])
    ∷ []

-- ---- close

-- the standings after closing a run of one rule and three events
abbrev pub closes : ℕ → List Standing → List Standing
closes code standings =
    standings_of (closed_run (record_of false (coded code ∷ []) 1 (replicate 3 (event 0 1)) 3 standings))

unfoldable pub closings : List (Case (List Standing))
closings =
    closes 1 (Open ∷ []) is (Violated 0 ∷ [])
    ∷ closes 7 (Open ∷ []) is (Violated 0 ∷ [])
    ∷ closes 8 (Open ∷ []) is (Fulfilled 0 ∷ [])
    ∷ closes 12 (Open ∷ []) is (Fulfilled 0 ∷ [])
    ∷ closes 2 (Idle ∷ Fulfilled 3 ∷ Violated 2 ∷ []) is (Idle ∷ Fulfilled 3 ∷ Violated 2 ∷ [])
    -- position 3 is the last
    ∷ closes 2 (Idle ∷ Idle ∷ Open ∷ Open ∷ []) is (Idle ∷ Idle ∷ Violated 0 ∷ Open ∷ [])
    -- rule 2 by its own code; there is no rule 3
    ∷ standings_of (closed_run (of_standings false 2 1 (replicate 256 Idle ++ (Open ∷ replicate 255 Idle ++ (Open ∷ []))))) is (replicate 256 Idle ++ (Fulfilled 0 ∷ replicate 255 Idle ++ (Open ∷ [])))
    ∷ []

-- ---- a finished cycle

-- response and its negative, over three events: 1, 2, 1
abbrev pub verdicts : ℕ → ℕ → Standing
verdicts k i =
    standing_at (finished_run (table_of (coded 2 ∷ coded 9 ∷ coded 16 ∷ [])) 3 (event_slots (event 0 1 ∷ event 1 2 ∷ event 2 1 ∷ []))) k i

unfoldable pub finished : List (Case Standing)
finished =
    verdicts 1 1 is Fulfilled 2
    ∷ verdicts 1 2 is Idle
    -- nothing more comes
    ∷ verdicts 1 3 is Violated 0
    ∷ verdicts 2 1 is Violated 2
    ∷ verdicts 2 3 is Fulfilled 0
    -- position 0, under exclusive choice and under the others
    ∷ verdicts 3 0 is Violated 1
    ∷ verdicts 3 1 is Idle
    ∷ verdicts 1 0 is Idle
    -- past the events and the rules
    ∷ verdicts 1 4 is Idle
    ∷ verdicts 4 1 is Idle
    ∷ []
