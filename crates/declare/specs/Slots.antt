-- Slots: the first are filled, the others as start gives them.
use Rattle.std.specs.Prelude.{List, [], ◌++◌, ℕ, ◌-◌, length, replicate}
use Rattle.declare.specs.Types.{Event, Rule, Table}
use Rattle.declare.specs.Limits.{most_rules, most_events}
use Rattle.declare.specs.Events.{empty_slot}
use Rattle.declare.specs.Rules.{no_rule}

unfoldable pub padded : {A : Type 0} → ℕ → A → List A → List A
padded room slot xs = xs ++ replicate (room - length xs) slot

abbrev pub event_slots : List Event → List Event
event_slots es = padded most_events empty_slot es

-- the table of these rules
unfoldable pub table_of : List Rule → Table
table_of rs = record { count = length rs; rules = padded most_rules no_rule rs }

unfoldable pub empty_table : Table
empty_table = table_of []
