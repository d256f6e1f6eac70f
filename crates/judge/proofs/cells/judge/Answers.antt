-- A decided standing is carried over; an event that is no activation is idle. What is known after
-- the scan is said once; then each return is the law for its case.
use mathlib.Core.Path.{◌≡◌, sym, ◌∙◌, ap}
use mathlib.Core.Bool.{Bool, true, false}
use mathlib.Core.List.{List}
use Prim.Native.Nat.{ℕ, ◌+◌, min}
use native.Mathlib.Omega.{arith}
use lib.ListN.{length, get_or}
use Rattle.declare.specs.declared.Standing.{Standing}
use Rattle.declare.specs.declared.Template.{Template}
use Rattle.declare.specs.declared.Event.{Event}
use Rattle.declare.specs.declared.Rule.{Rule}
use Rattle.declare.specs.Lists.{nearest}
use Rattle.declare.specs.Standings.{is_decided}
use Rattle.declare.specs.Steps.{carried}
use Rattle.condition.specs.declared.bound.Bound.{Bound}
use Rattle.condition.specs.Bound.{bound_of}
use Rattle.judge.specs.declared.span.Span.{Span}
use Rattle.judge.specs.Ready.{Ready}
use Rattle.declare.specs.Templates.{template_of, polarity_of}
use Rattle.declare.specs.Verdicts.{decided}
use Rattle.declare.proofs.Carried.{carried_decided, carried_other}
use Rattle.judge.specs.declared.columns.Columns.{Columns}
use Rattle.judge.specs.Columns.{suits_past}
use Rattle.declare.specs.Events.{no_event}
use Rattle.judge.specs.Flags.{flag_at}
use Rattle.judge.specs.Spans.{span_of}
use Rattle.judge.proofs.Activations.{flag_tells}
use Rattle.judge.proofs.Spans.{span_start}
use Rattle.judge.proofs.Judged.{Known, idle_here, with_target, out_of_reach, in_reach_lem}
use Rattle.judge.proofs.cells.judge.Goals as goal

pub returns-then-is_decided : goal.returns-then-is_decided
unfolding no_event
returns-then-is_decided c =
    sym (carried_decided c.args.s _ (sym c.is_decided.ensures ∙ c.if-is_decided.true))

pub returns-then-not-row-p : goal.returns-then-not-row-p
unfolding no_event
returns-then-not-row-p c =
    let other = sym c.is_decided.ensures ∙ c.if-is_decided.false in
    idle_here c.requires (flag_tells c.requires ∙ c.if-not-row-p.true) c.args.running c.args.horizon ∙ sym (carried_other c.args.s _ other)

-- ---- after the scan

known : {c : Columns} {es : List Event} {row : List Bool} {r : Rule} {p e j : ℕ} {b : Bound} {s : Span} {t : Template} → Ready c es row r p → get_or row p false ≡ true → b ≡ bound_of r (get_or es p no_event) → t ≡ template_of r.code → s ≡ span_of t.reach (flag_at row) (p + 1) (length row) → e ≡ min s.stop (length row) → j ≡ nearest (suits_past b c s.start) (p + 1) e → Known c es row r p b s j
known {row = row} {p = p} ready active bound told spanned end found = record {
  ready = ready;
  active = flag_tells ready ∙ active;
  bound = bound;
  spanned = spanned ∙ ap (λ (t : Template). span_of t.reach (flag_at row) (p + 1) (length row)) told;
  found = rw (← end) found;
}

-- what a target says under the rule's template
says : {t : Template} (r : Rule) → t ≡ template_of r.code → (j : ℕ) → decided t.polarity j ≡ decided (polarity_of r) j
says r told j = ap (λ (t : Template). decided t.polarity j) told

-- the standing that was there is not decided
anew : {b : Bool} (s : Standing) {v w : Standing} → b ≡ is_decided s → b ≡ false → w ≡ v → v ≡ carried s w
anew s told other e = sym e ∙ sym (carried_other s _ (sym told ∙ other))

pub nearest_suiting-j-requires-clause-begun : goal.nearest_suiting-j-requires-clause-begun
nearest_suiting-j-requires-clause-begun c = span_start _ _ _ _ _ c.span_of-span.ensures

pub returns-then-j-gt0 : goal.returns-then-j-gt0
unfolding no_event
returns-then-j-gt0 c =
    let a = c.args in
    let k = known c.requires c.if-not-row-p.false c.bound_of-bound.ensures c.template_of-template.ensures c.span_of-span.ensures c.min.ensures c.nearest_suiting-j.ensures.nearest in
    c.decide.ensures ∙ ap (decided _) c.target_of.ensures ∙ says a.rule.now c.template_of-template.ensures c.nearest_suiting-j.result
    ∙ anew a.s c.is_decided.ensures c.if-is_decided.false (with_target k a.running a.horizon c.if-j-gt0.true)

pub returns-then-running-span : goal.returns-then-running-span
unfolding no_event
returns-then-running-span c =
    let a = c.args in
    let k = known c.requires c.if-not-row-p.false c.bound_of-bound.ensures c.template_of-template.ensures c.span_of-span.ensures c.min.ensures c.nearest_suiting-j.ensures.nearest in
    c.decide-then-running-span.ensures ∙ says a.rule.now c.template_of-template.ensures 0
    ∙ anew a.s c.is_decided.ensures c.if-is_decided.false (out_of_reach k a.running a.horizon (omega arith) c.if-running-span.true)

pub returns-then-can_suit : goal.returns-then-can_suit
unfolding no_event
returns-then-can_suit c =
    let a = c.args in
    let k = known c.requires c.if-not-row-p.false c.bound_of-bound.ensures c.template_of-template.ensures c.span_of-span.ensures c.min.ensures c.nearest_suiting-j.ensures.nearest in
    anew a.s c.is_decided.ensures c.if-is_decided.false (in_reach_lem k a.running a.horizon (omega arith) c.if-running-span.false ∙ rw (← c.can_suit.ensures, c.if-can_suit.true))

pub returns : goal.returns
unfolding no_event
returns c =
    let a = c.args in
    let k = known c.requires c.if-not-row-p.false c.bound_of-bound.ensures c.template_of-template.ensures c.span_of-span.ensures c.min.ensures c.nearest_suiting-j.ensures.nearest in
    c.decide-2.ensures ∙ says a.rule.now c.template_of-template.ensures 0
    ∙ anew a.s c.is_decided.ensures c.if-is_decided.false (in_reach_lem k a.running a.horizon (omega arith) c.if-running-span.false ∙ rw (← c.can_suit.ensures, c.if-can_suit.false))
