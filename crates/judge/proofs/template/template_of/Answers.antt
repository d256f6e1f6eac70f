-- Each arm is the entry of the table at its code; the rest, 0, 1 and the numbers past 12, are as
-- code 1.
use mathlib.Core.Path.{◌∙◌}
use Prim.Native.Nat.{◌≤◌}
use Rattle.declare.specs.Limits.{first_overall}
use Rattle.declare.specs.Templates.{templates, template_of}
use Rattle.judge.proofs.Codes.{past, no_code}
use Rattle.judge.proofs.template.template_of.Goals as goal

pub returns-in-2 : goal.returns-in-2
unfolding template_of templates
returns-in-2 c = rw (c.fulfilled_by.ensures, c.in-2.is)

pub returns-in-3 : goal.returns-in-3
unfolding template_of templates
returns-in-3 c = rw (c.fulfilled_by-in-3.ensures, c.in-3.is)

pub returns-in-4 : goal.returns-in-4
unfolding template_of templates
returns-in-4 c = rw (c.fulfilled_by-in-4.ensures, c.in-4.is)

pub returns-in-5 : goal.returns-in-5
unfolding template_of templates
returns-in-5 c = rw (c.fulfilled_by-in-5.ensures, c.in-5.is)

pub returns-in-6 : goal.returns-in-6
unfolding template_of templates
returns-in-6 c = rw (c.fulfilled_by-in-6.ensures, c.in-6.is)

pub returns-in-7 : goal.returns-in-7
unfolding template_of templates
returns-in-7 c = rw (c.fulfilled_by-in-7.ensures, c.in-7.is)

pub returns-in-8 : goal.returns-in-8
unfolding template_of templates
returns-in-8 c = rw (c.violated_by.ensures, c.in-8.is)

pub returns-in-9 : goal.returns-in-9
unfolding template_of templates
returns-in-9 c = rw (c.violated_by-in-9.ensures, c.in-9.is)

pub returns-in-10 : goal.returns-in-10
unfolding template_of templates
returns-in-10 c = rw (c.violated_by-in-10.ensures, c.in-10.is)

pub returns-in-11 : goal.returns-in-11
unfolding template_of templates
returns-in-11 c = rw (c.violated_by-in-11.ensures, c.in-11.is)

pub returns-in-12 : goal.returns-in-12
unfolding template_of templates
returns-in-12 c = rw (c.violated_by-in-12.ensures, c.in-12.is)

pub returns-in_default : goal.returns-in_default
returns-in_default c =
    let n = c.in_default.in_default-own.rest in
    let other : 2 ≤ c.args.code → first_overall ≤ c.args.code = λ l. past (past (past (past (past (past (past (past (past (past (past l n.0.0.0.0.0.0.0.0.0.0.1) n.0.0.0.0.0.0.0.0.0.1) n.0.0.0.0.0.0.0.0.1) n.0.0.0.0.0.0.0.1) n.0.0.0.0.0.0.1) n.0.0.0.0.0.1) n.0.0.0.0.1) n.0.0.0.1) n.0.0.1) n.0.1) n.1 in
    c.fulfilled_by-in_default.ensures ∙ no_code c.args.code other
