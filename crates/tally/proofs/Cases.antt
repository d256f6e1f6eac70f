-- The tally's cases, by computation over the definitions.
use mathlib.Core.Path.{refl}
use Rattle.declare.specs.Lists.{all, any, all_below, count_below, map_from}
use Rattle.declare.specs.Conditions.{comparisons_of}
use Rattle.declare.specs.Events.{in_range, is_activity, readings_in_range, well_formed, non_falling_from, non_falling}
use Rattle.declare.specs.Overall.{is_overall}
use Rattle.declare.specs.Rules.{is_template, rule_at, is_overall_rule, fits_template, valid_condition, valid_end, valid_window, valid_head, valid_rule, rules_of, valid_table}
use Rattle.declare.specs.Answers.{◌>>=◌, ◌>>◌, require, after_call, answer_of}
use Rattle.standings.specs.Places.{standing_from, standing_in, zero_in, with_zero}
use Rattle.standings.specs.Totals.{positions_of, totals_by}
use Rattle.run.specs.Records.{valid_events, valid_at, valid_row, events_judged, valid_standings, valid_overall, counted_totals, valid_totals, valid_run}
use Rattle.declare.specs.Refusals.{number_of}
use Rattle.tally.specs.Causes.{refuses_with}
use Rattle.tally.specs.Tally.{has_room_for, counts_of, with_totals, absorb_of, tally_answer}
use Rattle.tally.specs.Cases.{limits, sums, counts, absorbed, afterwards, answers, counted_answers, causes, Checked}

pub checked : Checked
unfolding is_overall rule_at is_overall_rule fits_template zero_in with_zero events_judged valid_overall limits sums counts absorbed afterwards answers counted_answers causes refuses_with all any all_below count_below map_from counted_totals valid_totals comparisons_of in_range is_activity readings_in_range well_formed non_falling_from non_falling is_template valid_condition valid_end valid_window valid_head valid_rule rules_of valid_table standing_in valid_events valid_at valid_row valid_standings valid_run positions_of totals_by has_room_for counts_of with_totals absorb_of tally_answer answer_of after_call number_of standing_from ◌>>=◌ ◌>>◌ require
checked =
    record {
      of_limits = refl;
      of_sums = refl;
      of_counts = refl;
      of_absorbed = refl;
      of_after = refl;
      of_answers = refl;
      of_counted_answers = refl;
      of_causes = refl;
    }
