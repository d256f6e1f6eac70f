-- Cases of records, at both sides of each limit: what the definitions give, and what it should be.
use Rattle.std.specs.Prelude.{◌≡◌, Bool, true, false, List, [], ◌∷◌, ◌++◌, map, ℕ, replicate, None}
use Rattle.declare.specs.declared.Event.{Event}
use Rattle.declare.specs.declared.Rule.{Rule}
use Rattle.declare.specs.declared.Standing.{Standing}
use Rattle.declare.specs.declared.Standing.TheVariants.{Idle, Open, Fulfilled, Violated}
use Rattle.declare.specs.Rules.{no_rule, rule_at}
use Rattle.declare.specs.EdgeCycles.{always, window, rule, event}
use Rattle.standings.specs.declared.Cell.{Cell}
use Rattle.standings.specs.declared.totals.Totals.{Totals}
use Rattle.standings.specs.Totals.{idle_totals}
use Rattle.run.specs.declared.Run.{Run}
use Rattle.run.specs.Records.{with_totals, counted, valid_run}

-- ---- how the cases are written

pub record Case (A : Type 0) : Type 0 where
  pub found : A
  pub expected : A

infix 80 ◌is◌
abbrev pub ◌is◌ : {A : Type 0} → A → A → Case A
◌is◌ a b = record { found = a; expected = b }

-- what is found is what is expected, in the whole list
abbrev pub AsExpected : {A : Type 0} → List (Case A) → Type 0
AsExpected {A} cases = map (λ (c : Case A). c.found) cases ≡ map (λ (c : Case A). c.expected) cases

-- activity 1 is answered by 2
abbrev pub coded : ℕ → Rule
coded code = rule code 2 (window 0 None) always

abbrev pub cells_of : List Standing → List Cell
cells_of standings = map (λ (s : Standing). record { standing = s }) standings

-- a record of the first k of these rules and the first n of these events; its first cells, and its
-- cells of position 0, have these standings, and it has no others; its totals are theirs
abbrev pub record_with : Bool → List Rule → ℕ → List Event → ℕ → List Standing → List Standing → Run
record_with closed rules k events n standings zeros =
    counted
    (record {
      closed = closed;
      table = record { count = k; rules = rules };
      count = n;
      events = events;
      cells = cells_of standings;
      overall = cells_of zeros;
      totals = idle_totals;
      clock = 0;
    })

abbrev pub record_of : Bool → List Rule → ℕ → List Event → ℕ → List Standing → Run
record_of closed rules k events n standings = record_with closed rules k events n standings []

abbrev pub standings_of : Run → List Standing
standings_of r = map (λ (c : Cell). c.standing) r.cells

-- ---- the record, and 11

-- "rules count from 1"
unfoldable pub codes : List (Case ℕ)
codes =
    (rule_at (record { count = 2; rules = coded 2 ∷ coded 9 ∷ [] }) 1).code is 2
    ∷ (rule_at (record { count = 2; rules = coded 2 ∷ coded 9 ∷ [] }) 2).code is 9
    ∷ []

-- by the events
abbrev pub of_events : List Event → ℕ → Run
of_events events n = record_of false [] 0 events n []

-- by the standings under the first k of two rules, of n events
abbrev pub of_standings : Bool → ℕ → ℕ → List Standing → Run
of_standings closed k n standings =
    record_of closed (coded 2 ∷ coded 9 ∷ []) k (replicate n (event 0 1)) n standings

-- and under the first k of two rules, of which the first is about the cycle
abbrev pub of_cycle : Bool → ℕ → ℕ → List Standing → List Standing → Run
of_cycle closed k n standings zeros =
    record_with closed (coded 13 ∷ coded 9 ∷ []) k (replicate n (event 0 1)) n standings zeros

unfoldable pub records : List (Case Bool)
records =
    -- the table
    valid_run (record_of false (coded 2 ∷ no_rule ∷ []) 1 [] 0 []) is true
    ∷ valid_run (record_of false (coded 2 ∷ no_rule ∷ []) 2 [] 0 []) is false
    ∷ valid_run (record_of false (replicate 17 (coded 2)) 16 [] 0 []) is true
    ∷ valid_run (record_of false (replicate 17 (coded 2)) 17 [] 0 []) is false
    -- the events: at most 256, each up to the count well-formed, times not falling
    ∷ valid_run (of_events (replicate 257 (event 0 1)) 256) is true
    ∷ valid_run (of_events (replicate 257 (event 0 1)) 257) is false
    ∷ valid_run (of_events (event 0 1 ∷ event 0 65 ∷ []) 1) is true
    ∷ valid_run (of_events (event 0 1 ∷ event 0 65 ∷ []) 2) is false
    ∷ valid_run (of_events (event 0 0 ∷ event 0 1 ∷ []) 2) is false
    ∷ valid_run (of_events (event 5 1 ∷ event 5 1 ∷ event 4 1 ∷ []) 2) is true
    ∷ valid_run (of_events (event 5 1 ∷ event 5 1 ∷ event 4 1 ∷ []) 3) is false
    ∷ valid_run (of_events (event 5 1 ∷ event 4 1 ∷ event 4 1 ∷ []) 3) is false
    -- idle, and open
    ∷ valid_run (of_standings false 1 1 (Idle ∷ [])) is true
    ∷ valid_run (of_standings true 1 1 (Idle ∷ [])) is true
    ∷ valid_run (of_standings false 1 1 (Open ∷ [])) is true
    ∷ valid_run (of_standings true 1 1 (Open ∷ [])) is false
    -- targets up to the event count
    ∷ valid_run (of_standings true 1 2 (Fulfilled 2 ∷ Violated 2 ∷ [])) is true
    ∷ valid_run (of_standings true 1 2 (Fulfilled 3 ∷ Violated 2 ∷ [])) is false
    ∷ valid_run (of_standings true 1 2 (Fulfilled 2 ∷ Violated 3 ∷ [])) is false
    -- past the count all are idle, up to position 256
    ∷ valid_run (of_standings true 1 2 (Idle ∷ Violated 0 ∷ [])) is true
    ∷ valid_run (of_standings true 1 1 (Idle ∷ Violated 0 ∷ [])) is false
    ∷ valid_run (of_standings true 1 256 (replicate 255 Idle ++ (Fulfilled 0 ∷ []))) is true
    ∷ valid_run (of_standings true 1 255 (replicate 255 Idle ++ (Fulfilled 0 ∷ []))) is false
    -- of its rules only
    ∷ valid_run (of_standings true 1 1 (replicate 256 Idle ++ (Open ∷ []))) is true
    ∷ valid_run (of_standings true 2 1 (replicate 256 Idle ++ (Open ∷ []))) is false
    -- under a rule about the cycle position 0 is not idle, and the others are
    ∷ valid_run (of_cycle false 1 1 [] (Idle ∷ [])) is false
    ∷ valid_run (of_cycle false 1 1 [] (Open ∷ [])) is true
    ∷ valid_run (of_cycle true 1 1 [] (Open ∷ [])) is false
    ∷ valid_run (of_cycle true 1 1 [] (Fulfilled 1 ∷ [])) is true
    ∷ valid_run (of_cycle true 1 1 [] (Fulfilled 2 ∷ [])) is false
    ∷ valid_run (of_cycle true 1 1 [] (Violated 1 ∷ [])) is true
    ∷ valid_run (of_cycle true 1 1 [] (Violated 2 ∷ [])) is false
    ∷ valid_run (of_cycle true 1 1 (Violated 0 ∷ []) (Violated 0 ∷ [])) is false
    ∷ valid_run (of_cycle false 1 1 (Open ∷ []) (Open ∷ [])) is false
    ∷ valid_run (of_cycle true 1 256 (replicate 255 Idle ++ (Violated 0 ∷ [])) (Violated 0 ∷ [])) is false
    -- each row by its own rule
    ∷ valid_run (of_cycle true 2 1 (replicate 256 Idle ++ (Violated 0 ∷ [])) (Violated 0 ∷ [])) is true
    -- of other rules it is not read, nor past the rules
    ∷ valid_run (of_cycle true 2 1 [] (Violated 0 ∷ Open ∷ [])) is true
    ∷ valid_run (of_cycle true 1 1 [] (Violated 0 ∷ Idle ∷ Fulfilled 9 ∷ [])) is true
    ∷ []

-- activations, fulfilled, violated, open
abbrev pub totals : ℕ → ℕ → ℕ → ℕ → Totals
totals activations fulfilled violated still =
    record { activations = activations; fulfilled = fulfilled; violated = violated; «open» = still }

-- by the stored totals: of the first k of two rules and five events, under the first open, violated
-- twice and fulfilled, under the second fulfilled
abbrev pub with_stored : ℕ → List Totals → Run
with_stored k stored =
    with_totals (of_standings false k 5 (Open ∷ Violated 2 ∷ Idle ∷ Violated 0 ∷ Fulfilled 1 ∷ replicate 251 Idle ++ (Fulfilled 1 ∷ []))) stored

unfoldable pub checked_totals : List (Case Bool)
checked_totals =
    valid_run (with_stored 2 (totals 4 1 2 1 ∷ totals 1 1 0 0 ∷ [])) is true
    ∷ valid_run (with_stored 2 (totals 3 1 2 1 ∷ totals 1 1 0 0 ∷ [])) is false
    ∷ valid_run (with_stored 2 (totals 4 2 2 1 ∷ totals 1 1 0 0 ∷ [])) is false
    ∷ valid_run (with_stored 2 (totals 4 1 1 1 ∷ totals 1 1 0 0 ∷ [])) is false
    ∷ valid_run (with_stored 2 (totals 4 1 2 0 ∷ totals 1 1 0 0 ∷ [])) is false
    ∷ valid_run (with_stored 2 (totals 4 1 2 1 ∷ totals 1 0 1 0 ∷ [])) is false
    -- past the rules they are not read
    ∷ valid_run (with_stored 1 (totals 4 1 2 1 ∷ totals 9 9 9 9 ∷ [])) is true
    -- position 0 is counted under a rule about the cycle, and not under another
    ∷ valid_run (with_totals (of_cycle true 2 1 [] (Violated 1 ∷ Violated 1 ∷ [])) (totals 1 0 1 0 ∷ totals 0 0 0 0 ∷ [])) is true
    ∷ valid_run (with_totals (of_cycle true 2 1 [] (Violated 1 ∷ Violated 1 ∷ [])) (totals 0 0 0 0 ∷ totals 0 0 0 0 ∷ [])) is false
    ∷ valid_run (with_totals (of_cycle true 2 1 [] (Violated 1 ∷ Violated 1 ∷ [])) (totals 1 0 1 0 ∷ totals 1 0 1 0 ∷ [])) is false
    ∷ []
