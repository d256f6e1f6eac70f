-- What take and notice answer, check by check; and what holds after a call.
use Rattle.std.proofs.Common.{Result, Ok, Err}
use mathlib.Core.Path.{◌≡◌, refl, sym, subst, ◌∙◌}
use mathlib.Core.Bool.{Bool, true, false, not, true≢false}
use Prim.Native.Nat.{ℕ}
use borrow.Author.Tests.{not-true}
use Rattle.declare.specs.declared.Refusal.{Refusal}
use Rattle.declare.specs.declared.Event.{Event}
use Rattle.declare.specs.Limits.{most_events}
use Rattle.declare.specs.Events.{latest, well_formed}
use Rattle.declare.specs.Refusals.{number_of}
use lib.Dec.{leb, ltb}
use Rattle.declare.specs.Answers.{Answer, accepted, refused, ◌>>◌, require, is_accepted, answer_of, after_call}
use Rattle.declare.specs.Steps.{Call, takes, notices, admits}
use Rattle.declare.proofs.Answers.{no_of, of_of, required, then_value, after_cases}
use Rattle.run.specs.declared.Run.{Run}
use Rattle.run.specs.declared.Step.{Step}
use Rattle.run.specs.Answers.{run_answer, step_answer}
use Rattle.run.specs.Records.{horizon_of, valid_run}
use Rattle.run.specs.Calls.{ready, admitted, kept_time, entered, judged_run, call_of}
use Rattle.run.specs.Close.{closed_run, close_of}

-- ---- a step's answer, and the run beside it

pub refuses : {s : Step} {r : Run} {cause : Refusal} {answer : Answer Run} → s ≡ record { outcome = Err cause; run = r } → answer ≡ refused (number_of cause) → (step_answer s ≡ answer) × (s.run ≡ after_call r answer)
unfolding after_call run_answer
refuses e h = rw (e, h) (refl, refl)

pub accepts : (r : Run) {s : Step} {next : Run} {answer : Answer Run} → s ≡ record { outcome = Ok tt; run = next } → answer ≡ accepted next → (step_answer s ≡ answer) × (s.run ≡ after_call r answer)
unfolding after_call run_answer
accepts r e h = rw (e, h) (refl, refl)

-- ---- the checks that calls begin with

-- a call ends where one of its parts is refused
pub ends : {A : Type 0} {a : Result A Refusal} {cause : Refusal} {x : Answer (Unit {0})} (rest : Answer A) → a ≡ Err cause → answer_of {A = Unit {0}} (Err cause) ≡ x → answer_of a ≡ (x >> rest)
unfolding answer_of ◌>>◌
ends rest e f = rw (e, ← f)

pub goes_on : {A : Type 0} {u : Unit {0}} {x : Answer (Unit {0})} (rest : Answer A) → answer_of (Ok u) ≡ x → rest ≡ (x >> rest)
unfolding answer_of ◌>>◌
goes_on rest f = rw (← f)

passes : (test : Bool) (n : ℕ) {u : Unit {0}} → accepted u ≡ require test n → test ≡ true
unfolding require
passes true n e = refl
passes false n e = absurd (no_of (sym e))

-- the checks that begin the calls on r
abbrev pub running : Run → Answer (Unit {0})
running r = ready (valid_run r) r.closed

-- and those of a take or a notice
abbrev pub checks : Run → Call → Answer (Unit {0})
checks r call = admitted (running r) r.count (horizon_of r) call

module _ (r : Run) where
  -- past both
  pub is_running : {u : Unit {0}} → answer_of (Ok u) ≡ running r → (valid_run r ≡ true) × (r.closed ≡ false)
  unfolding answer_of ready
  is_running e =
      let v = required (valid_run r) 11 _ _ (sym e) in
      (v.0, not-true r.closed (passes _ _ (sym v.1)))

  pub then_by : {A : Type 0} (rest : Answer A) → (running r >> rest) ≡ (require (valid_run r) 11 >> (require (not r.closed) 9 >> rest))
  unfolding ready ◌>>◌ require
  then_by rest = go (valid_run r)
    where
      go : (v : Bool) → ((require v 11 >> require (not r.closed) 9) >> rest) ≡ (require v 11 >> (require (not r.closed) 9 >> rest))
      go true = refl
      go false = refl

-- ---- take and notice

module _ (r : Run) (call : Call) where
  -- of a running run the call itself decides
  pub call_by : valid_run r ≡ true → r.closed ≡ false → call_of r call ≡ (admits r.count (horizon_of r) call >> accepted (judged_run (entered r call)))
  unfolding call_of ◌>>◌ require
  call_by v c = rw (v, c)

  by_checks : call_of r call ≡ (checks r call >> accepted (judged_run (entered r call)))
  unfolding call_of admitted ready ◌>>◌ require
  by_checks = go (valid_run r) r.closed
    where
      go : (v c : Bool) → (require v 11 >> (require (not c) 9 >> (admits r.count (horizon_of r) call >> accepted (judged_run (entered r call))))) ≡ (((require v 11 >> require (not c) 9) >> admits r.count (horizon_of r) call) >> accepted (judged_run (entered r call)))
      go true true = refl
      go true false = refl
      go false c = refl

  -- the checks by their parts
  pub as_checked : {first : Answer (Unit {0})} {valid : Bool} {h : ℕ} → first ≡ ready valid r.closed → valid ≡ valid_run r → h ≡ horizon_of r → {x : Answer (Unit {0})} → x ≡ admitted first r.count h call → x ≡ checks r call
  as_checked e f g k = rw (e, f, g) at k

  -- the call's answer is that of its checks
  pub call_accepted : {u : Unit {0}} → answer_of (Ok u) ≡ checks r call → call_of r call ≡ accepted (judged_run (entered r call))
  call_accepted e = by_checks ∙ sym (goes_on _ e)

  pub call_refused : (cause : Refusal) → answer_of {A = Unit {0}} (Err cause) ≡ checks r call → call_of r call ≡ refused (number_of cause)
  unfolding answer_of ◌>>◌
  call_refused cause e = by_checks ∙ rw (← e) refl

  admits_it : {u : Unit {0}} → answer_of (Ok u) ≡ checks r call → admits r.count (horizon_of r) call ≡ accepted u
  unfolding answer_of admitted
  admits_it e =
      let v = required (valid_run r) 11 _ _ (sym (then_by r _) ∙ sym e) in
      (required (not r.closed) 9 _ _ v.1).1

-- the same of a notice, by the time that is kept
module _ (r : Run) (time : ℕ) where
  pub as_kept : {first : Answer (Unit {0})} {valid : Bool} {h : ℕ} → first ≡ ready valid r.closed → valid ≡ valid_run r → h ≡ horizon_of r → {x : Answer ℕ} → x ≡ kept_time first h time → x ≡ kept_time (running r) (horizon_of r) time
  as_kept e f g k = rw (e, f, g) at k

  pub kept : {t : ℕ} → answer_of (Ok t) ≡ kept_time (running r) (horizon_of r) time → (t ≡ time) × (answer_of (Ok tt) ≡ checks r (notices time))
  unfolding kept_time answer_of is_accepted admits admitted
  kept e =
      let v = then_value (checks r (notices time)) time _ (sym e) in
      (sym v.1, go (checks r (notices time)) v.0)
    where
      go : (x : Answer (Unit {0})) → is_accepted x ≡ true → accepted tt ≡ x
      go (accepted u) h = refl
      go (refused n) h = absurd (true≢false (sym h))

  pub not_kept : (cause : Refusal) → answer_of {A = ℕ} (Err cause) ≡ kept_time (running r) (horizon_of r) time → answer_of {A = Unit {0}} (Err cause) ≡ checks r (notices time)
  unfolding kept_time answer_of ◌>>◌ admits admitted
  not_kept cause e = go (checks r (notices time)) e
    where
      go : (x : Answer (Unit {0})) → refused (number_of cause) ≡ (x >> accepted time) → refused (number_of cause) ≡ x
      go (accepted u) h = absurd (no_of h)
      go (refused n) h = cc

  -- it is not below the horizon
  pub noticed : {u : Unit {0}} → answer_of (Ok u) ≡ checks r (notices time) → leb (horizon_of r) time ≡ true
  unfolding admits
  noticed h =
      let w = required (leb time latest) 3 _ _ (admits_it r (notices time) h) in
      passes _ _ (sym w.1)

-- an event that is taken, in time and with room
pub taken : (r : Run) (e : Event) {u : Unit {0}} → answer_of (Ok u) ≡ checks r (takes e) → (leb (horizon_of r) e.time ≡ true) × (ltb r.count most_events ≡ true)
unfolding admits
taken r e h =
    let w = required (well_formed e) 3 _ _ (admits_it r (takes e) h) in
    let t = required (leb (horizon_of r) e.time) 7 _ _ w.1 in
    (t.0, passes _ _ (sym t.1))

-- ---- close

pub closes : (r : Run) {u : Unit {0}} → answer_of (Ok u) ≡ running r → close_of r ≡ accepted (closed_run r)
unfolding close_of
closes r e = sym (then_by r _) ∙ sym (goes_on _ e)

pub closes_not : (r : Run) (cause : Refusal) → answer_of {A = Unit {0}} (Err cause) ≡ running r → close_of r ≡ refused (number_of cause)
unfolding close_of answer_of ◌>>◌
closes_not r cause e = sym (then_by r _) ∙ rw (← e) refl

-- ---- after a call

-- what an accepted one says
pub record Accepted (r : Run) (call : Call) (next : Run) : Type 0 where
  pub valid : valid_run r ≡ true
  pub running : r.closed ≡ false
  pub admitted : is_accepted (admits r.count (horizon_of r) call) ≡ true
  pub next_is : judged_run (entered r call) ≡ next

pub accepted_by : (r : Run) (call : Call) (next : Run) → call_of r call ≡ accepted next → Accepted r call next
unfolding call_of
accepted_by r call next h =
    let v = required (valid_run r) 11 _ next h in
    let c = required (not r.closed) 9 _ next v.1 in
    let t = then_value (admits r.count (horizon_of r) call) (judged_run (entered r call)) next c.1 in
    record { valid = v.0; running = not-true r.closed c.0; admitted = t.0; next_is = t.1 }

-- what holds of the run before, and of the next one where the call is accepted, holds after it
pub call_cases : (P : Run → Type 0) (r : Run) (call : Call) → P r → (r.closed ≡ false → is_accepted (admits r.count (horizon_of r) call) ≡ true → P (judged_run (entered r call))) → P (after_call r (call_of r call))
call_cases P r call before next =
    after_cases P r (call_of r call) before
    (λ s h. let t = accepted_by r call s h in subst P t.next_is (next t.running t.admitted))

pub close_cases : (P : Run → Type 0) (r : Run) → P r → P (closed_run r) → P (after_call r (close_of r))
unfolding close_of
close_cases P r before next =
    after_cases P r (close_of r) before
    (λ s h.
    let v = required (valid_run r) 11 _ s h in
    let c = required (not r.closed) 9 _ s v.1 in
    subst P (of_of c.1) next)
