-- The call start.
use Rattle.std.specs.Prelude.{true, false, []}
use Rattle.declare.specs.declared.Table.{Table}
use Rattle.declare.specs.Rules.{valid_table}
use Rattle.declare.specs.Slots.{event_slots, empty_table}
use Rattle.declare.specs.Answers.{Answer, accepted, ◌>>◌, require, after_call}
use Rattle.standings.specs.Places.{idle_cells, idle_overall}
use Rattle.standings.specs.Totals.{idle_totals}
use Rattle.judge.specs.Cells.{judged_overall}
use Rattle.run.specs.declared.Run.{Run}
use Rattle.run.specs.Records.{with_standings, counted}

-- "start copies the table and gives a run not closed, with no events, each event slot at time 0,
-- activity 1 and blank readings, each standing idle"; each total is 0, and so is the kept time
unfoldable pub idle_run : Table → Run
idle_run t =
    record {
      closed = false;
      table = t;
      count = 0;
      events = event_slots [];
      cells = idle_cells;
      overall = idle_overall;
      totals = idle_totals;
      clock = 0;
    }

-- the standing of a rule about the cycle is "judged from start on"
unfoldable pub new_run : Table → Run
new_run t =
    counted (with_standings (idle_run t) idle_cells (judged_overall true t (event_slots []) 0 0 idle_overall))

-- "start: 11"
unfoldable pub start_of : Table → Answer Run
start_of t = do
  require (valid_table t) 11
  accepted (new_run t)

-- the run beside start's answer; document 01 leaves free what stands beside a refusal: here the run
-- for the empty table
unfoldable pub started : Table → Run
started t = after_call (new_run empty_table) (start_of t)
