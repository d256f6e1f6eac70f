-- The limits of documents 01 and 02, by name.
use Rattle.std.specs.Prelude.{ℕ}

-- "activity 1 to 64"
abbrev pub last_activity : ℕ
last_activity = 64

-- the readings of an event
abbrev pub readings : ℕ
readings = 4

-- "up to four comparisons in a condition, on any readings" (document 02, Card 6)
abbrev pub most_comparisons : ℕ
most_comparisons = 4

-- the templates have the codes 1 to 16; from 13 on they are about the cycle as such
abbrev pub last_template : ℕ
last_template = 16

abbrev pub first_overall : ℕ
first_overall = 13

-- of a table, and of a run
abbrev pub most_rules : ℕ
most_rules = 16

abbrev pub most_events : ℕ
most_events = 256
