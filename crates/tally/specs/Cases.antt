-- The tally at both sides of its limit, and its refusals: what the definitions give, and what it
-- should be. Proved as `checked` in proofs/Cases.
use Rattle.std.specs.Prelude.{Bool, true, false, List, [], ◌∷◌, ◌++◌, ℕ, replicate, Ok, Err}
use Rattle.declare.specs.declared.Standing.{Standing}
use Rattle.declare.specs.declared.Standing.TheVariants.{Idle, Open, Fulfilled, Violated}
use Rattle.declare.specs.declared.Refusal.TheVariants.{InvalidRecord, NotFound, WrongPhase, TallyOverflow}
use Rattle.declare.specs.Answers.{Answer, accepted, refused, after_call, answer_of}
use Rattle.run.specs.declared.Run.{Run}
use Rattle.standings.specs.declared.totals.Totals.{Totals}
use Rattle.run.specs.RecordCases.{Case, ◌is◌, AsExpected, of_standings, totals}
use Rattle.tally.specs.declared.Tally.{Tally}
use Rattle.tally.specs.Causes.{refuses_with}
use Rattle.tally.specs.Tally.{has_room_for, added, counts_of, with_totals, absorb_of, tally_answer}

-- cycles, activations, fulfilled, violated
abbrev pub tally : ℕ → ℕ → ℕ → ℕ → Tally
tally cycles activations fulfilled violated =
    record { cycles = cycles; activations = activations; fulfilled = fulfilled; violated = violated }

-- ---- 14

-- "a tally field would pass 4294967295": each field alone; what is open is no field of a tally
unfoldable pub limits : List (Case Bool)
limits =
    has_room_for (tally 4294967294 0 0 0) (totals 0 0 0 0) is true
    ∷ has_room_for (tally 4294967295 0 0 0) (totals 0 0 0 0) is false
    ∷ has_room_for (tally 0 4294967290 0 0) (totals 5 0 0 0) is true
    ∷ has_room_for (tally 0 4294967290 0 0) (totals 6 0 0 0) is false
    ∷ has_room_for (tally 0 0 4294967290 0) (totals 0 5 0 0) is true
    ∷ has_room_for (tally 0 0 4294967290 0) (totals 0 6 0 0) is false
    ∷ has_room_for (tally 0 0 0 4294967290) (totals 0 0 5 0) is true
    ∷ has_room_for (tally 0 0 0 4294967290) (totals 0 0 6 0) is false
    ∷ has_room_for (tally 4294967294 4294967290 4294967290 4294967290) (totals 5 5 5 6) is true
    ∷ []

-- "cycles by 1, the others by that rule's totals"
unfoldable pub sums : List (Case Tally)
sums =
    added (tally 0 0 0 0) (totals 0 0 0 0) is tally 1 0 0 0
    ∷ added (tally 1 20 300 4000) (totals 5 6 7 8) is tally 2 25 306 4007
    ∷ added (tally 4294967294 0 0 0) (totals 0 0 0 0) is tally 4294967295 0 0 0
    ∷ []

-- ---- 11, 10, 9

-- two rules, three events; the standing s at position 3 under rule 2
abbrev pub run : Bool → Standing → Run
run closed s =
    of_standings closed 2 3 (Fulfilled 3 ∷ replicate 255 Idle ++ (Fulfilled 2 ∷ Violated 0 ∷ s ∷ []))

-- "tally: 11, 10, 9": an earlier cause is said before a later one
unfoldable pub counts : List (Case (Answer Totals))
counts =
    counts_of (run true (Violated 0)) 1 is accepted (totals 1 1 0 0)
    ∷ counts_of (run true (Violated 0)) 2 is accepted (totals 3 1 2 0)
    ∷ counts_of (run false Open) 2 is refused 9
    ∷ counts_of (run true Idle) 0 is refused 10
    ∷ counts_of (run true Idle) 3 is refused 10
    ∷ counts_of (run false Idle) 3 is refused 10
    ∷ counts_of (run true Open) 1 is refused 11
    ∷ counts_of (run false (Violated 4)) 3 is refused 11
    ∷ []

-- "..., 14"
unfoldable pub absorbed : List (Case (Answer Tally))
absorbed =
    with_totals (tally 1 20 300 4000) (totals 5 6 7 8) is accepted (tally 2 25 306 4007)
    ∷ with_totals (tally 4294967295 0 0 0) (totals 0 0 0 0) is refused 14
    ∷ absorb_of (run true Idle) 3 (tally 4294967295 0 0 0) is refused 10
    ∷ absorb_of (run true Idle) 2 (tally 6 5 4 3) is accepted (tally 7 7 5 4)
    ∷ []

-- ---- what stands beside an answer

-- "a refusal alters neither run nor tally"
unfoldable pub afterwards : List (Case Tally)
afterwards =
    after_call (tally 1 2 3 4) (accepted (tally 5 6 7 8)) is tally 5 6 7 8
    ∷ after_call (tally 1 2 3 4) (refused 14) is tally 1 2 3 4
    ∷ []

-- an answer of the code has the number of the refusal of that name
unfoldable pub answers : List (Case (Answer Tally))
answers =
    tally_answer (tally 1 2 3 4) (Ok tt) is accepted (tally 1 2 3 4)
    ∷ tally_answer (tally 1 2 3 4) (Err InvalidRecord) is refused 11
    ∷ tally_answer (tally 1 2 3 4) (Err NotFound) is refused 10
    ∷ tally_answer (tally 1 2 3 4) (Err WrongPhase) is refused 9
    ∷ tally_answer (tally 1 2 3 4) (Err TallyOverflow) is refused 14
    ∷ []

unfoldable pub counted_answers : List (Case (Answer Totals))
counted_answers =
    answer_of (Ok (totals 1 2 3 4)) is accepted (totals 1 2 3 4)
    ∷ answer_of (Err InvalidRecord) is refused 11
    ∷ answer_of (Err NotFound) is refused 10
    ∷ answer_of (Err WrongPhase) is refused 9
    ∷ []

-- a number is among those that an answer may be refused with
unfoldable pub causes : List (Case Bool)
causes =
    refuses_with (11 ∷ 10 ∷ 9 ∷ []) (accepted (totals 1 2 3 4)) is true
    ∷ refuses_with (11 ∷ 10 ∷ 9 ∷ []) (answer_of {A = Totals} (Err InvalidRecord)) is true
    ∷ refuses_with (11 ∷ 10 ∷ 9 ∷ []) (answer_of {A = Totals} (Err WrongPhase)) is true
    ∷ refuses_with (11 ∷ 10 ∷ 9 ∷ []) (answer_of {A = Totals} (Err TallyOverflow)) is false
    ∷ refuses_with (11 ∷ 10 ∷ 9 ∷ 14 ∷ []) (answer_of {A = Totals} (Err TallyOverflow)) is true
    ∷ refuses_with [] (answer_of {A = Totals} (Err NotFound)) is false
    ∷ []

pub record Checked : Type 0 where
  pub of_limits : AsExpected limits
  pub of_sums : AsExpected sums
  pub of_counts : AsExpected counts
  pub of_absorbed : AsExpected absorbed
  pub of_after : AsExpected afterwards
  pub of_answers : AsExpected answers
  pub of_counted_answers : AsExpected counted_answers
  pub of_causes : AsExpected causes
