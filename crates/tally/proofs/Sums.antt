-- What the code counts and sums is what document 01 fixes: by the totals' answer, which has the
-- refusals 11 and 10.
use Rattle.std.proofs.Common.{◌≡◌, refl, sym, ◌∙◌, ap, Bool, true, false, true≢false, ◌||◌, [], ◌∷◌, ℕ, eqb, Result, Ok, Err}
use Rattle.declare.specs.declared.Refusal.{Refusal}
use Rattle.declare.specs.Lists.{any}
use Rattle.declare.specs.Answers.{Answer, accepted, refused, ◌>>=◌, ◌>>◌, require, after_call, answer_of}
use Rattle.standings.specs.declared.totals.Totals.{Totals}
use Rattle.run.specs.declared.Run.{Run}
use Rattle.run.specs.Records.{totals_in, valid_run}
use Rattle.run.specs.Queries.{one_of, totals_of}
use Rattle.run.proofs.Answered.{totals_counted}
use Rattle.tally.specs.declared.Tally.{Tally}
use Rattle.tally.specs.declared.answer.Counted.{Counted}
use Rattle.tally.specs.Causes.{refuses_with}
use Rattle.tally.specs.Tally.{has_room_for, counts_of, with_totals, tally_answer, with_counted, added, Absorbs}

-- ---- what a rule of a run brings

-- the totals' answer, and then whether the run is closed
pub by_totals : (r : Run) (rule : ℕ) → counts_of r rule ≡ (totals_of r rule >>= (λ (c : Totals). require r.closed 9 >> accepted c))
unfolding counts_of ◌>>=◌ ◌>>◌ require
by_totals r rule = rw (totals_counted r rule) (go (valid_run r) refl (one_of r.table.count rule) refl)
  where
    go : (v : Bool) → valid_run r ≡ v → (o : Bool) → one_of r.table.count rule ≡ o → counts_of r rule ≡ ((require v 11 >> (require o 10 >> accepted (totals_in r rule))) >>= (λ (c : Totals). require r.closed 9 >> accepted c))
    go false e o f = rw e
    go true e false f = rw (e, f)
    go true e true f = rw (e, f)

-- it is refused with 11, 10 or 9 alone
pub counts_causes : (r : Run) (rule : ℕ) (a : Result Totals Refusal) → answer_of a ≡ counts_of r rule → refuses_with (11 ∷ 10 ∷ 9 ∷ []) (answer_of a) ≡ true
unfolding refuses_with any counts_of ◌>>◌ require
counts_causes r rule a e = rw e (go (valid_run r) (one_of r.table.count rule) r.closed)
  where
    go : (v o c : Bool) → refuses_with (11 ∷ 10 ∷ 9 ∷ []) (require v 11 >> (require o 10 >> (require c 9 >> accepted (totals_in r rule)))) ≡ true
    go false o c = refl
    go true false c = refl
    go true true false = refl
    go true true true = refl

-- a part of a call that is refused ends it
pub ends : {A B : Type 0} {a : Result B Refusal} {cause : Refusal} {x : Answer A} (rest : A → Answer B) → a ≡ Err cause → answer_of {A = A} (Err cause) ≡ x → answer_of a ≡ (x >>= rest)
unfolding answer_of ◌>>=◌
ends rest e f = rw (e, ← f)

pub goes_on : {A B : Type 0} {a : A} {x : Answer A} (rest : A → Answer B) → answer_of (Ok a) ≡ x → rest a ≡ (x >>= rest)
unfolding answer_of ◌>>=◌
goes_on rest f = rw (← f)

-- ---- what the tally becomes

pub absorbs : {t next : Tally} {c : Counted} → answer_of (Ok next) ≡ with_counted t c → Absorbs t c next (Ok tt)
unfolding tally_answer after_call answer_of
absorbs e = record { answers = e; leaves = rw (← e) }

-- a refusal is passed on
pub absorbs_none : {t : Tally} {c : Counted} {o : Result (Unit {0}) Refusal} {cause : Refusal} → o ≡ Err cause → answer_of {A = Tally} (Err cause) ≡ with_counted t c → Absorbs t c t o
unfolding tally_answer after_call answer_of
absorbs_none h e = record { answers = rw h e; leaves = rw (← e) }

-- whatever was counted, the sum is refused with 11, 10, 9 or 14 alone
with_causes : (t : Tally) (c : Counted) → refuses_with (11 ∷ 10 ∷ 9 ∷ 14 ∷ []) (with_counted t c) ≡ true
unfolding refuses_with any with_counted with_totals ◌>>=◌ ◌>>◌ require
with_causes t c = go (answer_of c.answer) c.causes
  where
    room : (totals : Totals) (f : Bool) → refuses_with (11 ∷ 10 ∷ 9 ∷ 14 ∷ []) (require f 14 >> accepted (added t totals)) ≡ true
    room totals true = refl
    room totals false = refl

    among : (x y z w : Bool) → (x || (y || (z || false))) ≡ true → (x || (y || (z || (w || false)))) ≡ true
    among true y z w h = refl
    among false true z w h = refl
    among false false true w h = refl
    among false false false w h = absurd (true≢false (sym h))

    go : (x : Answer Totals) → refuses_with (11 ∷ 10 ∷ 9 ∷ []) x ≡ true → refuses_with (11 ∷ 10 ∷ 9 ∷ 14 ∷ []) (x >>= with_totals t) ≡ true
    go (accepted totals) h = room totals (has_room_for t totals)
    go (refused n) h = among (eqb n 11) (eqb n 10) (eqb n 9) (eqb n 14) h

-- and so is absorbing it
pub absorb_causes : {t next : Tally} {c : Counted} {o : Result (Unit {0}) Refusal} → Absorbs t c next o → refuses_with (11 ∷ 10 ∷ 9 ∷ 14 ∷ []) (answer_of o) ≡ true
unfolding refuses_with tally_answer answer_of
absorb_causes {t} {next} {c} {o} a = go o (ap (refuses_with (11 ∷ 10 ∷ 9 ∷ 14 ∷ [])) a.answers ∙ with_causes t c)
  where
    go : (o : Result (Unit {0}) Refusal) → refuses_with (11 ∷ 10 ∷ 9 ∷ 14 ∷ []) (tally_answer next o) ≡ true → refuses_with (11 ∷ 10 ∷ 9 ∷ 14 ∷ []) (answer_of o) ≡ true
    go (Ok done) h = refl
    go (Err cause) h = h
