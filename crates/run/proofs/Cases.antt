-- The small records, by computation over the definitions.
use mathlib.Core.Path.{refl}
use Rattle.declare.specs.Lists.{all, any, first_up_to, last_up_to, first_past, nearest, all_below, count_below, map_from}
use Rattle.declare.specs.Conditions.{comparisons_of, tests_of, met}
use Rattle.declare.specs.Events.{in_range, is_activity, readings_in_range, well_formed, non_falling_from, non_falling, last_from, last_time, event_at, first_time, empty_slot}
use Rattle.declare.specs.Overall.{is_overall, overall_of}
use Rattle.declare.specs.Rules.{is_template, no_rule, rule_at, is_overall_rule, fits_template, valid_condition, valid_end, valid_window, valid_head, valid_rule, rules_of, valid_table}
use Rattle.declare.specs.Suits.{occurs, is_activation, activation_at, before_end, within, correlates, suits}
use Rattle.declare.specs.Templates.{templates, template_of, in_reach}
use Rattle.declare.specs.Verdicts.{occurs_at, fits_at, eligible, target, decided, seen, formula_of, decision, verdict}
use Rattle.declare.specs.Continuations.{horizon}
use Rattle.declare.specs.Reachability.{candidates, meets, some_meets, satisfiable, soonest, has_room, can_come, can_occur, is_settled, undecided, standing}
use Rattle.declare.specs.Steps.{carried, closing, closed, admits}
use Rattle.declare.specs.Slots.{padded, table_of, empty_table}
use Rattle.declare.specs.Answers.{◌>>◌, require, after_call}
use Rattle.standings.specs.Places.{standing_from, standing_in, overall_in, zero_in, with_zero, overall_cell, changed_overall, in_use, changed_cell, changed}
use Rattle.standings.specs.Totals.{positions_of, totals_by}
use Rattle.judge.specs.Cells.{judged, judged_at, judged_cells, judged_overall}
use Rattle.run.specs.Records.{events_of, valid_events, valid_at, valid_row, events_judged, valid_standings, valid_overall, counted_totals, valid_totals, valid_run}
use Rattle.run.specs.Start.{idle_run, new_run, start_of, started}
use Rattle.run.specs.Calls.{entered, judged_run, call_of}
use Rattle.run.specs.Close.{closed_at, closed_cells, closed_overall, closed_run, close_of, running_run, finished_run}
use Rattle.run.specs.Queries.{is_position}
use Rattle.run.specs.RecordCases.{codes, records, checked_totals}
use Rattle.run.specs.CallCases.{starts, zeros, judgements, call_numbers, clocks, lapses, closings, finished}
use Rattle.run.specs.QueryCases.{numbers, positions, counts, kept_totals}
use Rattle.run.specs.Checked.{Checked}

pub checked : Checked
unfolding codes records starts zeros judgements call_numbers clocks lapses closings entered call_of admits close_of running_run finished numbers positions counts checked_totals kept_totals idle_run counted_totals valid_totals first_time empty_slot is_overall overall_of is_overall_rule fits_template occurs occurs_at fits_at seen formula_of decision can_occur is_settled overall_in zero_in with_zero overall_cell changed_overall judged_overall events_judged valid_overall closed_overall is_position all any first_up_to last_up_to first_past nearest all_below count_below map_from comparisons_of tests_of met in_range is_activity readings_in_range well_formed non_falling_from non_falling last_from last_time event_at is_template no_rule valid_condition valid_end valid_window valid_head valid_rule rules_of valid_table is_activation activation_at before_end within correlates suits templates template_of in_reach eligible target decided horizon candidates meets some_meets satisfiable soonest has_room can_come undecided standing carried closing closed standing_in in_use judged judged_at changed_cell judged_cells events_of rule_at valid_events valid_at valid_row valid_standings valid_run after_call new_run start_of empty_table started judged_run changed closed_at closed_cells closed_run positions_of totals_by standing_from padded table_of ◌>>◌ require verdict finished_run
checked =
    record {
      of_codes = refl;
      of_records = refl;
      of_checked_totals = refl;
      of_starts = refl;
      of_zeros = refl;
      of_takes = refl;
      of_call_numbers = refl;
      of_clocks = refl;
      of_lapses = refl;
      of_closings = refl;
      of_finished = refl;
      of_numbers = refl;
      of_positions = refl;
      of_totals_lem = refl;
      of_kept_totals = refl;
    }
