-- The edge cycles, the listing and the other cases, by computation over the definitions.
use mathlib.Core.Path.{refl}
use Rattle.declare.specs.Lists.{all, any, none_between, first_up_to, last_up_to, first_past, nearest}
use Rattle.declare.specs.Comparisons.{plus, holds, reference_of, test_of, passes}
use Rattle.declare.specs.Conditions.{comparisons_of, tests_of, met}
use Rattle.declare.specs.Events.{least, greatest, in_range, is_activity, readings_in_range, well_formed, non_falling_from, non_falling, last_from, last_time, no_event, event_at, first_time, empty_slot}
use Rattle.declare.specs.Overall.{is_overall, overall_of}
use Rattle.declare.specs.Rules.{is_template, is_reading, valid_reference, valid_comparison, valid_condition, valid_end, valid_window, valid_head, fits_template, valid_rule, rules_of, valid_table}
use Rattle.declare.specs.Suits.{occurs, is_activation, activation_at, before_end, within, correlates, suits}
use Rattle.declare.specs.Templates.{templates, template_of, in_reach}
use Rattle.declare.specs.Verdicts.{occurs_at, fits_at, eligible, target, decided, seen, formula_of, decision, verdict}
use Rattle.declare.specs.Continuations.{horizon, continuation}
use Rattle.declare.specs.Reachability.{asks, meets, after, edge_of, edge_at, edge, candidates, some_meets, satisfiable, soonest, has_room, can_come, can_occur, is_settled, undecided, standing}
use Rattle.declare.specs.Refusals.{number_of, has_line}
use Rattle.declare.specs.Answers.{◌>>◌, require, is_accepted}
use Rattle.declare.specs.Steps.{closing, closed, admits, is_admitted, course_with, course_after, course}
use Rattle.declare.specs.EdgeCycles.{edge_cycles, listing}
use Rattle.declare.specs.TargetCases.{events_from, targets}
use Rattle.declare.specs.OverallCases.{starts, overalls}
use Rattle.declare.specs.TemplateCases.{activations, windows, twelve}
use Rattle.declare.specs.ConditionCases.{comparisons, conditions}
use Rattle.declare.specs.BandCases.{bands, banded}
use Rattle.declare.specs.LimitCases.{limits, with_line, without_line}
use Rattle.declare.specs.CallCases.{offers, answers, mixed, overtaken, lapses}
use Rattle.declare.specs.Checked.{Checked}

pub checked : Checked
unfolding starts overalls first_time empty_slot is_overall overall_of fits_template occurs occurs_at fits_at seen formula_of decision can_occur is_settled closing closed offers answers mixed overtaken lapses admits is_accepted is_admitted course_with course_after course ◌>>◌ require with_line without_line number_of has_line edge_cycles listing activations windows twelve comparisons conditions bands banded limits events_from targets all any none_between first_up_to last_up_to first_past nearest plus holds reference_of test_of passes comparisons_of tests_of met least greatest in_range is_activity readings_in_range well_formed non_falling_from non_falling last_from last_time no_event event_at is_template is_reading valid_reference valid_comparison valid_condition valid_end valid_window valid_head valid_rule rules_of valid_table is_activation activation_at before_end within correlates suits templates template_of in_reach eligible target decided verdict horizon continuation asks meets after edge_of edge_at edge candidates some_meets satisfiable soonest has_room can_come undecided standing
checked =
    record {
      edge_cycles_lem = refl;
      the_listing = refl;
      of_activations = refl;
      of_windows = refl;
      of_templates = refl;
      of_targets = refl;
      of_starts = refl;
      of_overalls = refl;
      of_comparisons = refl;
      of_conditions = refl;
      of_bands = refl;
      of_banded = refl;
      of_limits = refl;
      of_numbers = (refl, refl);
      of_lines = (refl, refl);
      of_offers = refl;
      of_mixed = (refl, refl);
      of_overtaken = (refl, refl);
      of_lapses = refl;
    }
