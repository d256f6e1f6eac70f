use Rattle.declare.specs.Rules.{is_overall_rule}
use Rattle.declare.proofs.Sweeps.{Swept}
use Rattle.standings.specs.Places.{overall_cell}
use Rattle.judge.specs.Cells.{judged_at}
use Rattle.judge.proofs.overall.judge_overall.Given as goal

abbrev pub invariant-loop-k : goal.invariant-loop-k
invariant-loop-k l = Swept (overall_cell (is_overall_rule l.table) (judged_at l.running l.table l.cycle l.horizon)) l.initial.cells l.cells l.k
