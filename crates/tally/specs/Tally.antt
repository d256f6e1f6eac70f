-- "A tally for one rule has cycles, activations, fulfilled, violated (32 bits each). Absorbing a
-- closed run alters the caller's tally in place: cycles by 1, the others by that rule's totals."
use Rattle.std.specs.Prelude.{◌≡◌, Bool, ◌&&◌, ℕ, ◌+◌, leb, Result, Ok, Err}
use Rattle.declare.specs.declared.Refusal.{Refusal}
use Rattle.declare.specs.Refusals.{number_of}
use Rattle.declare.specs.Answers.{Answer, accepted, refused, ◌>>=◌, ◌>>◌, require, after_call, answer_of}
use Rattle.standings.specs.declared.totals.Totals.{Totals}
use Rattle.run.specs.declared.Run.{Run}
use Rattle.run.specs.Records.{totals_in, valid_run}
use Rattle.run.specs.Queries.{one_of}
use Rattle.tally.specs.declared.Tally.{Tally}
use Rattle.tally.specs.declared.answer.Counted.{Counted}

-- a field has 32 bits
abbrev pub most_counted : ℕ
most_counted = 4294967295

-- not "a tally field would pass 4294967295"
unfoldable pub has_room_for : Tally → Totals → Bool
has_room_for t c =
    leb (t.cycles + 1) most_counted
    && leb (t.activations + c.activations) most_counted
    && leb (t.fulfilled + c.fulfilled) most_counted
    && leb (t.violated + c.violated) most_counted

abbrev pub added : Tally → Totals → Tally
added t c =
    record {
      cycles = t.cycles + 1;
      activations = t.activations + c.activations;
      fulfilled = t.fulfilled + c.fulfilled;
      violated = t.violated + c.violated;
    }

-- "tally: 11, 10, 9, ..": what a rule of a run brings
unfoldable pub counts_of : Run → ℕ → Answer Totals
counts_of r rule = do
  require (valid_run r) 11
  require (one_of r.table.count rule) 10
  require r.closed 9
  accepted (totals_in r rule)

-- ".., 14": the tally with that
unfoldable pub with_totals : Tally → Totals → Answer Tally
with_totals t c = do
  require (has_room_for t c) 14
  accepted (added t c)

-- absorbing a rule of a run
unfoldable pub absorb_of : Run → ℕ → Tally → Answer Tally
absorb_of r rule t = do
  c ← counts_of r rule
  with_totals t c

-- ---- the answers of the code, in document 01's numbers

-- a call with this outcome leaves the tally t if it is done
unfoldable pub tally_answer : Tally → Result (Unit {0}) Refusal → Answer Tally
tally_answer t (Ok done) = accepted t
tally_answer t (Err cause) = refused (number_of cause)

-- what a rule of a run brings
pub record Counts (r : Run) (rule : ℕ) (c : Counted) : Type 0 where
  pub answers : answer_of c.answer ≡ counts_of r rule

-- the tally with what was counted
unfoldable pub with_counted : Tally → Counted → Answer Tally
with_counted t c = answer_of c.answer >>= with_totals t

-- absorbing it leads from the tally `before` to the tally `next`, with this outcome
pub record Absorbs (before : Tally) (c : Counted) (next : Tally) (outcome : Result (Unit {0}) Refusal) : Type 0 where
  pub answers : tally_answer next outcome ≡ with_counted before c
  pub leaves : next ≡ after_call before (with_counted before c)
