-- The totals of a rule, by its standings.
use Rattle.std.specs.Prelude.{Bool, not, cond, List, ℕ, zero, suc, ◌+◌, ◌%◌, ltb, replicate}
use Rattle.declare.specs.declared.Table.{Table}
use Rattle.declare.specs.declared.Standing.{Standing}
use Rattle.declare.specs.declared.Standing.TheVariants.{Idle, Open, Fulfilled, Violated}
use Rattle.declare.specs.Limits.{most_rules}
use Rattle.declare.specs.Lists.{count_below, map_from}
use Rattle.declare.specs.Standings.{is_idle, is_open, is_fulfilled, is_violated}
use Rattle.standings.specs.declared.Cell.{Cell}
use Rattle.standings.specs.declared.totals.Totals.{Totals}
use Rattle.standings.specs.Places.{standing_in, zero_in}

-- how many of the positions 0 to n stand so; s is the standing of each
unfoldable pub positions_of : (Standing → Bool) → (ℕ → Standing) → ℕ → ℕ
positions_of p s n = count_below (λ k. p (s k)) (suc n)

-- "activations (positions not idle ..), fulfilled, violated, open, each the count of such
-- positions"
unfoldable pub totals_by : (ℕ → Standing) → ℕ → Totals
totals_by s n =
    record {
      activations = positions_of (λ x. not (is_idle x)) s n;
      fulfilled = positions_of is_fulfilled s n;
      violated = positions_of is_violated s n;
      «open» = positions_of is_open s n;
    }

-- ---- counted position by position

abbrev pub no_totals : Totals
no_totals = record { activations = 0; fulfilled = 0; violated = 0; «open» = 0 }

-- one more, in the 16 bits that a total has
abbrev pub one_more : ℕ → ℕ
one_more n = (n + 1) % 65536

-- the totals with one position more, which has the standing s
unfoldable pub with_standing : Totals → Standing → Totals
with_standing t Idle = t
with_standing t Open =
    record { activations = one_more t.activations; fulfilled = t.fulfilled; violated = t.violated; «open» = one_more t.«open» }
with_standing t (Fulfilled j) =
    record { activations = one_more t.activations; fulfilled = one_more t.fulfilled; violated = t.violated; «open» = t.«open» }
with_standing t (Violated j) =
    record { activations = one_more t.activations; fulfilled = t.fulfilled; violated = one_more t.violated; «open» = t.«open» }

-- the totals with the positions 1 to n more; s is the standing of each
unfoldable pub with_row : Totals → (ℕ → Standing) → ℕ → Totals
with_row t s zero = t
with_row t s (suc n) = with_standing (with_row t s n) (s (suc n))

-- ---- of all rules, one slot a rule; slots past the rules stay as they are

abbrev pub idle_totals : List Totals
idle_totals = replicate most_rules no_totals

-- of position 0
unfoldable pub zero_totals : Table → List Cell → List Totals → List Totals
zero_totals t overall totals =
    map_from (λ k u. cond (ltb k t.count) (with_standing no_totals (zero_in t overall (k + 1))) u) 0 totals

-- with the positions 1 to n of each rule more
unfoldable pub row_totals : ℕ → ℕ → List Cell → List Totals → List Totals
row_totals rules n cells totals =
    map_from (λ k u. cond (ltb k rules) (with_row u (standing_in cells (k + 1)) n) u) 0 totals
