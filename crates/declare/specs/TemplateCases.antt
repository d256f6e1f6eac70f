-- Cases of activations, windows and the twelve templates.
use Rattle.std.specs.Prelude.{List, [], ◌∷◌, ℕ, pos, None, Some}
use Rattle.declare.specs.Types.{Event, Equal, AtLeast, Constant, Activation, Rule, Idle, Open, Fulfilled, Violated}
use Rattle.declare.specs.Verdicts.{verdict}
use Rattle.declare.specs.Reachability.{standing}
use Rattle.declare.specs.EdgeCycles.{Case, ◌is◌, always, when, window, rule, event, reads, live}

-- ---- activations

-- reading 1 of the activation is at least 5
abbrev pub guarded : Rule
guarded =
    record {
      code = 2;
      activation = 1;
      target = 2;
      window = window 0 None;
      condition = when AtLeast (Constant (pos 5));
      correlation = always;
    }

unfoldable pub activations : List Case
activations =
    live guarded (reads 0 1 (pos 5) ∷ []) 1 is Open
    ∷ live guarded (reads 0 1 (pos 4) ∷ []) 1 is Idle
    ∷ live guarded (event 0 1 ∷ []) 1 is Idle
    ∷ live guarded (reads 0 2 (pos 5) ∷ []) 1 is Idle
    -- the activation condition is not asked of the target, nor the correlation of the activation
    ∷ live guarded (reads 0 1 (pos 5) ∷ event 0 2 ∷ []) 1 is Fulfilled 2
    ∷ live (rule 2 2 (window 0 None) (when Equal (Constant (pos 3)))) (reads 0 1 (pos 5) ∷ reads 0 2 (pos 3) ∷ []) 1 is Fulfilled 2
    ∷ live (rule 2 2 (window 0 None) (when Equal (Constant (pos 3)))) (reads 0 1 (pos 3) ∷ reads 0 2 (pos 5) ∷ []) 1 is Open
    -- "activation's reading g plus k": of the activation, not of the event under test
    ∷ live (rule 2 2 (window 0 None) (when Equal (Activation 1 (pos 2)))) (reads 0 1 (pos 3) ∷ reads 0 2 (pos 5) ∷ []) 1 is Fulfilled 2
    ∷ live (rule 2 2 (window 0 None) (when Equal (Activation 1 (pos 2)))) (reads 0 1 (pos 5) ∷ reads 0 2 (pos 3) ∷ []) 1 is Open
    -- between two activations no event blocks that does not meet the activation condition
    ∷ live (record { code = 3; activation = 1; target = 2; window = window 0 None; condition = when Equal (Constant (pos 1)); correlation = always }) (reads 0 1 (pos 1) ∷ reads 0 1 (pos 2) ∷ event 0 2 ∷ []) 1 is Fulfilled 3
    ∷ []

-- ---- windows: 10 to 20, the target after and before the activation

abbrev pub after : ℕ → ℕ → List Event
after s t = event s 1 ∷ event t 2 ∷ []

abbrev pub prior : ℕ → ℕ → List Event
prior s t = event s 2 ∷ event t 1 ∷ []

abbrev pub windowed : ℕ → Rule
windowed code = rule code 2 (window 10 (Some 20)) always

unfoldable pub windows : List Case
windows =
    verdict (windowed 1) (after 100 109) 1 is Violated 0
    ∷ verdict (windowed 1) (after 100 110) 1 is Fulfilled 2
    ∷ verdict (windowed 1) (after 100 119) 1 is Fulfilled 2
    ∷ verdict (windowed 1) (after 100 120) 1 is Violated 0
    ∷ verdict (windowed 1) (prior 100 109) 2 is Violated 0
    ∷ verdict (windowed 1) (prior 100 110) 2 is Fulfilled 1
    ∷ verdict (windowed 1) (prior 100 119) 2 is Fulfilled 1
    ∷ verdict (windowed 1) (prior 100 120) 2 is Violated 0
    ∷ verdict (windowed 5) (prior 100 110) 2 is Fulfilled 1
    ∷ verdict (windowed 5) (prior 100 120) 2 is Violated 0
    -- b is no length: 19 after the activation is the last chance, not a + b
    ∷ live (windowed 2) (event 100 1 ∷ event 119 9 ∷ []) 1 is Open
    ∷ live (windowed 2) (event 100 1 ∷ event 120 9 ∷ []) 1 is Violated 0
    -- in 3 the window runs from the activation, not from the event before the target
    ∷ live (windowed 3) (event 100 1 ∷ event 110 9 ∷ event 125 2 ∷ []) 1 is Violated 0
    ∷ live (windowed 3) (event 100 1 ∷ event 110 9 ∷ event 115 2 ∷ []) 1 is Fulfilled 3
    -- the last time there is, and times that repeat
    ∷ live (rule 2 2 (window 0 None) always) (event 4294967295 1 ∷ []) 1 is Open
    ∷ live (rule 2 2 (window 0 (Some 1)) always) (event 7 1 ∷ event 7 9 ∷ []) 1 is Open
    ∷ live (rule 2 2 (window 1 None) always) (event 4294967295 1 ∷ []) 1 is Violated 0
    -- a later horizon ends the window sooner, also for the next event
    ∷ standing (windowed 4) (event 100 1 ∷ []) 119 1 is Open
    ∷ standing (windowed 4) (event 100 1 ∷ []) 120 1 is Violated 0
    ∷ []

-- ---- the twelve templates, both ways, with the target that is named

abbrev pub plain : ℕ → Rule
plain code = rule code 2 (window 0 None) always

-- positions: 2, 1, 2, 2
abbrev pub around : List Event
around = event 0 2 ∷ event 1 1 ∷ event 2 2 ∷ event 3 2 ∷ []

-- positions: 2, 9, 1, 9, 1, 9, 2
abbrev pub apart : List Event
apart = event 0 2 ∷ event 1 9 ∷ event 2 1 ∷ event 3 9 ∷ event 4 1 ∷ event 5 9 ∷ event 6 2 ∷ []

abbrev pub alone : List Event
alone = event 0 9 ∷ event 1 1 ∷ event 2 9 ∷ []

unfoldable pub twelve : List Case
twelve =
    verdict (plain 1) around 2 is Fulfilled 1
    ∷ verdict (plain 1) alone 2 is Violated 0
    ∷ verdict (plain 2) around 2 is Fulfilled 3
    ∷ verdict (plain 2) alone 2 is Violated 0
    ∷ verdict (plain 3) apart 5 is Fulfilled 7
    ∷ verdict (plain 3) apart 3 is Violated 0
    ∷ verdict (plain 4) around 2 is Fulfilled 3
    ∷ verdict (plain 4) apart 5 is Violated 0
    ∷ verdict (plain 5) around 2 is Fulfilled 1
    ∷ verdict (plain 5) alone 2 is Violated 0
    ∷ verdict (plain 6) apart 3 is Fulfilled 1
    ∷ verdict (plain 6) apart 5 is Violated 0
    ∷ verdict (plain 7) around 2 is Fulfilled 1
    ∷ verdict (plain 7) apart 3 is Violated 0
    ∷ verdict (plain 8) around 2 is Violated 1
    ∷ verdict (plain 8) alone 2 is Fulfilled 0
    ∷ verdict (plain 9) around 2 is Violated 3
    ∷ verdict (plain 9) alone 2 is Fulfilled 0
    ∷ verdict (plain 10) around 2 is Violated 1
    ∷ verdict (plain 10) alone 2 is Fulfilled 0
    ∷ verdict (plain 11) around 2 is Violated 3
    ∷ verdict (plain 11) apart 5 is Fulfilled 0
    ∷ verdict (plain 12) around 2 is Violated 1
    ∷ verdict (plain 12) apart 3 is Fulfilled 0
    -- an event may be its own target in 1, 2 and 5, not in 3, 4, 6 and 7
    ∷ verdict (rule 1 1 (window 0 None) always) (event 0 1 ∷ []) 1 is Fulfilled 1
    ∷ verdict (rule 2 1 (window 0 None) always) (event 0 1 ∷ []) 1 is Fulfilled 1
    ∷ verdict (rule 3 1 (window 0 None) always) (event 0 1 ∷ []) 1 is Violated 0
    ∷ verdict (rule 4 1 (window 0 None) always) (event 0 1 ∷ []) 1 is Violated 0
    ∷ verdict (rule 5 1 (window 0 None) always) (event 0 1 ∷ []) 1 is Fulfilled 1
    ∷ verdict (rule 6 1 (window 0 None) always) (event 0 1 ∷ []) 1 is Violated 0
    ∷ verdict (rule 7 1 (window 0 None) always) (event 0 1 ∷ []) 1 is Violated 0
    ∷ verdict (rule 8 1 (window 0 None) always) (event 0 1 ∷ []) 1 is Violated 1
    ∷ verdict (rule 9 1 (window 0 None) always) (event 0 1 ∷ []) 1 is Violated 1
    ∷ verdict (rule 10 1 (window 0 None) always) (event 0 1 ∷ []) 1 is Violated 1
    -- while the cycle runs: decided by the past, or open
    ∷ live (plain 1) (event 0 1 ∷ []) 1 is Open
    ∷ live (plain 4) (event 0 1 ∷ []) 1 is Open
    ∷ live (plain 4) (event 0 1 ∷ event 0 9 ∷ []) 1 is Violated 0
    ∷ live (plain 3) (event 0 1 ∷ event 0 1 ∷ []) 1 is Violated 0
    ∷ live (plain 5) (event 0 1 ∷ []) 1 is Violated 0
    ∷ live (plain 6) (event 0 1 ∷ []) 1 is Violated 0
    ∷ live (plain 10) (event 0 1 ∷ []) 1 is Fulfilled 0
    ∷ live (plain 11) (event 0 1 ∷ []) 1 is Open
    ∷ live (plain 11) (event 0 1 ∷ event 0 9 ∷ []) 1 is Fulfilled 0
    ∷ []
