-- The calls standing and totals.
use Rattle.std.specs.Prelude.{Bool, ◌&&◌, ◌||◌, ℕ, leb}
use Rattle.declare.specs.declared.Standing.{Standing}
use Rattle.declare.specs.declared.Table.{Table}
use Rattle.declare.specs.Rules.{is_overall_rule}
use Rattle.declare.specs.Answers.{Answer, accepted, ◌>>◌, require}
use Rattle.standings.specs.declared.totals.Totals.{Totals}
use Rattle.run.specs.declared.Run.{Run}
use Rattle.run.specs.Records.{standing_at, stored_totals, valid_run}

-- "rules .. count from 1": k is one of n
abbrev pub one_of : ℕ → ℕ → Bool
one_of n k = leb 1 k && leb k n

-- a position of rule k, of n events; position 0 "counts as taken" under a rule about the cycle, and
-- "of other rules is 10"
unfoldable pub is_position : Table → ℕ → ℕ → ℕ → Bool
is_position t n k i = leb i n && (leb 1 i || is_overall_rule t k)

-- "standing and totals: 11, 10"
unfoldable pub standing_of : Run → ℕ → ℕ → Answer Standing
standing_of r rule position = do
  require (valid_run r) 11
  require (one_of r.table.count rule && is_position r.table r.count rule position) 10
  accepted (standing_at r rule position)

-- "totals answers with them"
unfoldable pub totals_of : Run → ℕ → Answer Totals
totals_of r rule = do
  require (valid_run r) 11
  require (one_of r.table.count rule) 10
  accepted (stored_totals r rule)
