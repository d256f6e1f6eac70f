-- The cells of a run: sixteen rows, one a rule, of 256 places, one a position.
use Rattle.std.specs.Prelude.{Bool, cond, ◌&&◌, List, ℕ, zero, suc, ◌+◌, ◌-◌, ◌*◌, ◌/◌, ◌%◌, ltb, get_or, replicate}
use Rattle.declare.specs.declared.Table.{Table}
use Rattle.declare.specs.declared.Standing.{Standing}
use Rattle.declare.specs.declared.Standing.TheVariants.{Idle}
use Rattle.declare.specs.Lists.{map_from}
use Rattle.declare.specs.Limits.{most_rules, most_events}
use Rattle.declare.specs.Rules.{is_overall_rule}
use Rattle.standings.specs.declared.Cell.{Cell}

-- 16 rules of 256 positions
abbrev pub places : ℕ
places = 4096

abbrev pub idle_cell : Cell
idle_cell = record { standing = Idle }

-- "each standing idle"
abbrev pub idle_cells : List Cell
idle_cells = replicate places idle_cell

-- the place of a rule's position; both count from 1
abbrev pub place_of : ℕ → ℕ → ℕ
place_of rule position = (rule - 1) * most_events + (position - 1)

-- the standing of a position, in the row that begins at place `first`
unfoldable pub standing_from : List Cell → ℕ → ℕ → Standing
standing_from cells first position = (get_or cells (first + (position - 1)) idle_cell).standing

-- the standing of a rule's position
unfoldable pub standing_in : List Cell → ℕ → ℕ → Standing
standing_in cells rule position = standing_from cells ((rule - 1) * most_events) position

-- ---- position 0, one cell a rule

abbrev pub idle_overall : List Cell
idle_overall = replicate most_rules idle_cell

unfoldable pub overall_in : List Cell → ℕ → Standing
overall_in cells rule = (get_or cells (rule - 1) idle_cell).standing

-- under other rules it is idle, whatever their cells say
unfoldable pub zero_in : Table → List Cell → ℕ → Standing
zero_in t cells rule = cond (is_overall_rule t rule) (overall_in cells rule) Idle

-- the standings of a rule: at position 0, and from position 1 on
unfoldable pub with_zero : Standing → (ℕ → Standing) → ℕ → Standing
with_zero z s zero = z
with_zero z s (suc i) = s (suc i)

-- `of` says of which rules, and `f` what the standing becomes; the others stay as they are
unfoldable pub overall_cell : (ℕ → Bool) → (ℕ → ℕ → Standing → Standing) → ℕ → Cell → Cell
overall_cell of f k c = cond (of (k + 1)) (record { standing = f (k + 1) 0 c.standing }) c

unfoldable pub changed_overall : (ℕ → Bool) → (ℕ → ℕ → Standing → Standing) → List Cell → List Cell
changed_overall of f cells = map_from (overall_cell of f) 0 cells

-- ---- positions from 1 on

-- place j is of one of the rules, and of one of the n events
unfoldable pub in_use : ℕ → ℕ → ℕ → Bool
in_use rules n j = ltb (j / most_events) rules && ltb (j % most_events) n

-- `f` stands for what the standing of a rule's position becomes: the cell at place j, if it is in
-- use
unfoldable pub changed_cell : (ℕ → ℕ → Standing → Standing) → ℕ → ℕ → ℕ → Cell → Cell
changed_cell f rules n j c =
    cond (in_use rules n j) (record { standing = f (j / most_events + 1) (j % most_events + 1) c.standing }) c

-- all cells; those not in use stay as they are
unfoldable pub changed : (ℕ → ℕ → Standing → Standing) → ℕ → ℕ → List Cell → List Cell
changed f rules n cells = map_from (changed_cell f rules n) 0 cells
