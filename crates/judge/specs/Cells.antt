-- What a step makes of the standings of a run.
use Rattle.std.specs.Prelude.{Bool, cond, List, ℕ, take}
use Rattle.declare.specs.declared.Event.{Event}
use Rattle.declare.specs.declared.Rule.{Rule}
use Rattle.declare.specs.declared.Standing.{Standing}
use Rattle.declare.specs.declared.Table.{Table}
use Rattle.declare.specs.Rules.{rule_at, is_overall_rule}
use Rattle.declare.specs.Verdicts.{verdict}
use Rattle.declare.specs.Reachability.{standing}
use Rattle.declare.specs.Steps.{carried}
use Rattle.standings.specs.declared.Cell.{Cell}
use Rattle.standings.specs.Places.{changed, changed_overall}

-- in a running cycle the standing, in a finished one the verdict
unfoldable pub judged : Bool → Rule → List Event → ℕ → ℕ → Standing
judged running r es h i = cond running (standing r es h i) (verdict r es i)

-- what the standing s of rule k's position i becomes: a decided one is carried over, any other
-- follows from the events
unfoldable pub judged_at : Bool → Table → List Event → ℕ → ℕ → ℕ → Standing → Standing
judged_at running t es h k i s = carried s (judged running (rule_at t k) es h i)

-- all cells, from the first n events; those not in use stay as they are
unfoldable pub judged_cells : Bool → Table → List Event → ℕ → ℕ → List Cell → List Cell
judged_cells running t events n h cells = changed (judged_at running t (take n events) h) t.count n cells

-- and those at position 0; those of other rules stay as they are
unfoldable pub judged_overall : Bool → Table → List Event → ℕ → ℕ → List Cell → List Cell
judged_overall running t events n h cells =
    changed_overall (is_overall_rule t) (judged_at running t (take n events) h) cells
