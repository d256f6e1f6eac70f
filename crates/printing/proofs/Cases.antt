-- The cases, by computation.
use mathlib.Core.Path.{refl}
use Rattle.declare.specs.Lists.{count_below}
use Rattle.declare.specs.Overall.{is_overall}
use Rattle.declare.specs.Rules.{rule_at, is_overall_rule}
use Rattle.declare.specs.Slots.{padded, table_of}
use Rattle.number.specs.Number.{none}
use Rattle.number.specs.Written.{digits_in, digits_of}
use Rattle.line.specs.Fields.{onto, split, each_after, joined}
use Rattle.line.specs.Texts.{line_after, lines_of, text_of, written_line, written_text}
use Rattle.standings.specs.Places.{standing_from, standing_in, overall_in, zero_in, with_zero}
use Rattle.standings.specs.Totals.{positions_of, totals_by}
use Rattle.run.specs.Start.{idle_run}
use Rattle.run.specs.Close.{finished_run}
use Rattle.cycle_text.specs.Cycle.{cycle_text_of}
use Rattle.rule_text.specs.Rules.{rules_text_of}
use Rattle.notebook.specs.Notebook.{read_with, finished_of, notebook_of}
use Rattle.printing.specs.Lines.{line_fields}
use Rattle.printing.specs.Report.{position_lines, lines_up_to, event_lines, activation_lines, total_of, rule_lines, report_lines, report_of, word_of, reply_lines, printed_lines, printed_of}
use Rattle.printing.specs.Cases.{reports, texts, replies, Checked}

pub checked : Checked
unfolding is_overall rule_at is_overall_rule overall_in zero_in with_zero event_lines reports texts replies line_fields position_lines lines_up_to activation_lines total_of rule_lines report_lines report_of word_of reply_lines printed_lines printed_of read_with finished_of notebook_of rules_text_of cycle_text_of line_after lines_of text_of written_line written_text onto split each_after joined digits_in digits_of none count_below positions_of totals_by standing_from standing_in padded table_of idle_run finished_run
checked = record { of_reports = refl; of_texts = refl; of_replies = refl }
