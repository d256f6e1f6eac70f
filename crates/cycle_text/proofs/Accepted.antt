-- What read_cycle promises of a text: from its answer to what the text holds, and back.
use mathlib.Core.Path.{◌≡◌, sym, ap, ◌∙◌}
use mathlib.Core.List.{List}
use Prim.Native.Nat.{ℕ}
use Rattle.std.specs.Prelude.{Result, Ok, Err}
use Rattle.std.proofs.lemmas.Result.{IfOk-at_ok}
use Rattle.declare.specs.Refusals.{number_of}
use Rattle.line.specs.Texts.{All, Stop, records_read}
use Rattle.line.proofs.Texts.{accepted_lem}
use Rattle.cycle_text.specs.Types.{Event, Events, LineRefusal}
use Rattle.cycle_text.specs.Cycle.{cycle_text_of}
use Rattle.cycle_text.specs.Reads.{events_in, slots_of, ReadsCycle}

module _ (text : List ℕ) (r : Result Events LineRefusal) (reads : ReadsCycle text r) where
  pub accepted_events : (e : Events) → r ≡ Ok e → cycle_text_of text ≡ All (events_in e)
  unfolding records_read
  accepted_events e h = sym (rw h at reads.records)

  pub refused_text : (x : LineRefusal) → r ≡ Err x → cycle_text_of text ≡ Stop (number_of x.refusal) x.line
  unfolding records_read
  refused_text x h = sym (rw h at reads.records)

  pub events_read : (es : List Event) → cycle_text_of text ≡ All es → r ≡ Ok (slots_of es)
  events_read es e =
      let a = accepted_lem events_in r es (reads.records ∙ e) in
      let s : a.value ≡ slots_of (events_in a.value) = IfOk-at_ok (λ (x : Events). x ≡ slots_of (events_in x)) a.answer reads.slots in
      a.answer ∙ ap Ok s ∙ rw a.records
