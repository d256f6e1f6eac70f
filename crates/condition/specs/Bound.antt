-- A rule bound to one activation.
use Rattle.std.specs.Prelude.{Bool, ◌&&◌, List, [], ◌∷◌, ℕ, eqb}
use Rattle.declare.specs.declared.Event.{Event}
use Rattle.declare.specs.declared.Condition.{Condition}
use Rattle.declare.specs.declared.Test.{Test}
use Rattle.declare.specs.declared.Rule.{Rule}
use Rattle.declare.specs.Lists.{all}
use Rattle.declare.specs.Comparisons.{test_of, passes}
use Rattle.declare.specs.Events.{empty_slot}
use Rattle.declare.specs.Suits.{within, between}
use Rattle.declare.specs.Reachability.{satisfiable, has_room}
use Rattle.condition.specs.declared.four.Four.{Four}
use Rattle.condition.specs.Four.{used}
use Rattle.condition.specs.declared.bound.Bound.{Bound}

abbrev pub Tests : Type 0
Tests = Four Test

-- the tests in use
abbrev pub test_list : Tests → List Test
test_list ts = used ts

-- a condition for the activation a
unfoldable pub tests_for : Event → Condition → Tests
tests_for a c =
    record { count = c.count; items = test_of a c.first ∷ test_of a c.second ∷ test_of a c.third ∷ test_of a c.fourth ∷ [] }

-- the rule for the activation a
unfoldable pub bound_of : Rule → Event → Bound
bound_of r a = record { target = r.target; time = a.time; window = r.window; tests = tests_for a r.correlation }

-- a rule about the cycle, for a first event at the time `first`: what it asks of an event, by
-- constants only
unfoldable pub cycle_bound : Rule → ℕ → Bound
cycle_bound r first = record { target = r.target; time = first; window = r.window; tests = tests_for empty_slot r.condition }

-- e suits the activation that the rule is bound to
unfoldable pub suits_bound : Bound → Event → Bool
suits_bound b e =
    eqb e.activity b.target && within b.window (between b.time e.time) && all (passes e) (test_list b.tests)

-- an event no earlier than h may suit the activation that the rule is bound to
unfoldable pub can_suit_bound : Bound → ℕ → Bool
can_suit_bound b h = has_room b.window b.time h && satisfiable (test_list b.tests)
