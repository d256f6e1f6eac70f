-- `window::end_answer`: no end for `-` alone; else the value, or the reader's fault.
use mathlib.Core.Path.{sym, ◌∙◌}
use Rattle.std.proofs.lemmas.Result.{err_from_is_err_and}
use Rattle.declare.specs.Answers.{◌>>=◌}
use Rattle.rule_text.specs.Reads.{end_by}
use Rattle.rule_text.proofs.window.end_answer.Goals as goal

pub returns-then-is_dash : goal.returns-then-is_dash
unfolding end_by
returns-then-is_dash c = rw (sym c.is_dash.ensures ∙ c.if-is_dash.true)

pub returns-in_err-natural : goal.returns-in_err-natural
unfolding end_by ◌>>=◌
returns-in_err-natural c =
    let p = err_from_is_err_and c.from_residual.result c.from_residual.ensures.1 in
    rw (p.1, p.2, sym c.is_dash.ensures ∙ c.if-is_dash.false, sym c.natural.ensures ∙ c.in_err-natural.was)

pub returns : goal.returns
unfolding end_by ◌>>=◌
returns c = rw (sym c.is_dash.ensures ∙ c.if-is_dash.false, sym c.natural.ensures ∙ c.in_ok-natural.was)
