-- The calls take and notice: "a notice judges as a take does".
use Rattle.std.specs.Prelude.{Bool, true, not, ℕ, ◌+◌, set}
use Rattle.declare.specs.declared.Event.{Event}
use Rattle.declare.specs.Answers.{Answer, accepted, ◌>>◌, require}
use Rattle.declare.specs.Steps.{Call, takes, notices, admits}
use Rattle.judge.specs.Cells.{judged_cells, judged_overall}
use Rattle.run.specs.declared.Run.{Run}
use Rattle.run.specs.Records.{horizon_of, with_events, with_clock, with_standings, counted, valid_run}

-- the event in the first slot past the count, "only take fills them"; the time "kept in the run"
unfoldable pub entered : Run → Call → Run
entered r (takes e) = with_events r (r.count + 1) (set r.events r.count e)
entered r (notices t) = with_clock r t

-- "decided standings at taken positions are carried over, all others follow from the events now in
-- the record"; the totals with them
unfoldable pub judged_run : Run → Run
judged_run r =
    counted
    (with_standings r (judged_cells true r.table r.events r.count (horizon_of r) r.cells) (judged_overall true r.table r.events r.count (horizon_of r) r.overall))

-- what take, notice and close ask first
unfoldable pub ready : Bool → Bool → Answer (Unit {0})
ready valid closed = do
  require valid 11
  require (not closed) 9

-- then a take or a notice
unfoldable pub admitted : Answer (Unit {0}) → ℕ → ℕ → Call → Answer (Unit {0})
admitted first n h call = do
  first
  admits n h call

-- the time that an accepted notice keeps
unfoldable pub kept_time : Answer (Unit {0}) → ℕ → ℕ → Answer ℕ
kept_time first h time = do
  admitted first 0 h (notices time)
  accepted time

-- "take: 11, 9, 3, 7, 8", notice 11, 9, 3, 7; `admits` has 3, 7 and 8
unfoldable pub call_of : Run → Call → Answer Run
call_of r call = do
  require (valid_run r) 11
  require (not r.closed) 9
  admits r.count (horizon_of r) call
  accepted (judged_run (entered r call))

abbrev pub take_of : Run → Event → Answer Run
take_of r e = call_of r (takes e)

abbrev pub notice_of : Run → ℕ → Answer Run
notice_of r time = call_of r (notices time)
