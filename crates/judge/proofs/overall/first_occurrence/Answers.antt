-- The first place whose event is of the activity, meets the condition and is inside the window.
use Rattle.std.proofs.Common.{◌≡◌, ℕ, suc, Bool, eqb, ◌&&◌, get_or, length, add-one, sym, zero-le, ◌∙◌, rules, arith, tests}
use Rattle.std.specs.List.{position}
use Rattle.std.proofs.lemmas.Iterator.{YieldsList-from_slice}
use Rattle.std.proofs.lemmas.Iterator.Search.{position_from_yields_List}
use Rattle.declare.specs.declared.Event.{Event}
use Rattle.declare.specs.Conditions.{met}
use Rattle.declare.specs.Events.{no_event}
use Rattle.declare.specs.Verdicts.{occurs_at}
use Rattle.declare.specs.Suits.{within, between}
use Rattle.judge.proofs.First.{passed, first_none, first_is, none_passes, first_passes}
use Rattle.judge.proofs.Occurrences.{occurs_next}
use Rattle.judge.proofs.overall.first_occurrence.Goals as goal
use Rattle.judge.proofs.overall.first_occurrence.Goals.{After-position-place}

abbrev occurring : After-position-place → Event → Bool
occurring c e =
    let a = c.args in
    eqb e.activity a.activity && (met a.rule.now.condition e e && within a.rule.now.window (between c.first_time-first.result e.time))

placed : (c : After-position-place) → c.position-place.result ≡ position (occurring c) c.args.events.now
placed c =
    let es = c.args.events.now in
    position_from_yields_List (occurring c) _ _ _ c.position-place.ensures.ran (YieldsList-from_slice es cc) (λ x b q k. search (rules, tests))

pub returns-in-Some : goal.returns-in-Some
returns-in-Some c =
    let s = c.before in
    let es = c.args.events.now in
    let f = first_passes (occurring s) es no_event c.in-Some.p (sym c.in-Some.is ∙ placed s) in
    let at : (k : ℕ) → occurs_at c.args.rule.now es c.args.activity (suc k) ≡ occurring s (get_or es k no_event) = λ k. occurs_next _ _ es k c.first_time-first.ensures in
    (rw add-one (sym (first_is _ c.in-Some.p (length es) f.0 (passed _ (λ k l. at k ∙ f.2 k l)) (at c.in-Some.p ∙ f.1))), omega (arith, f.0))

pub returns-in-None : goal.returns-in-None
returns-in-None c =
    let s = c.before in
    let es = c.args.events.now in
    let f = none_passes (occurring s) es no_event (sym c.in-None.is ∙ placed s) in
    let at : (k : ℕ) → occurs_at c.args.rule.now es c.args.activity (suc k) ≡ occurring s (get_or es k no_event) = λ k. occurs_next _ _ es k c.first_time-first.ensures in
    (sym (first_none _ (length es) (passed _ (λ k l. at k ∙ f k l))), zero-le)
