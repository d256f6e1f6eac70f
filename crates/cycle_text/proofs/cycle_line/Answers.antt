-- `cycle_text::cycle_line`: a line of six fields gives what its fields give.
use mathlib.Core.Path.{sym, ◌∙◌}
use Rattle.std.proofs.Common.{rules}
use Rattle.line.specs.Fields.{fields_from}
use Rattle.line.proofs.Lines.{chained, line_checked}
use Rattle.cycle_text.specs.Cycle.{event_of}
use Rattle.cycle_text.proofs.Lines.{field_count}
use Rattle.cycle_text.proofs.cycle_line.Goals as goal

pub returns-clause-answer_value : goal.returns-clause-answer_value
returns-clause-answer_value c =
    let s = c.args.rest.now in
    chained c.check_line-line.result.answer c.and_then.result (event_of (fields_from 5 s)) (search rules)
    ∙ rw c.check_line-line.ensures.answer_value (sym (line_checked 5 event_of field_count s))
