-- What read_rules promises of a text: from its answer to what the text holds, and back.
use mathlib.Core.Path.{◌≡◌, sym, ap, ◌∙◌}
use mathlib.Core.List.{List}
use Prim.Native.Nat.{ℕ}
use Rattle.std.specs.Prelude.{Result, Ok, Err}
use Rattle.std.proofs.lemmas.Result.{IfOk-at_ok}
use Rattle.declare.specs.Refusals.{number_of}
use Rattle.declare.specs.Rules.{rules_of}
use Rattle.declare.specs.Slots.{table_of}
use Rattle.line.specs.Texts.{All, Stop, records_read}
use Rattle.line.proofs.Texts.{accepted_lem}
use Rattle.rule_text.specs.Types.{Rule, Table, LineRefusal}
use Rattle.rule_text.specs.Rules.{rules_text_of}
use Rattle.rule_text.specs.Reads.{ReadsRules}

module _ (text : List ℕ) (r : Result Table LineRefusal) (reads : ReadsRules text r) where
  pub accepted_rules : (t : Table) → r ≡ Ok t → rules_text_of text ≡ All (rules_of t)
  unfolding records_read
  accepted_rules t h = sym (rw h at reads.records)

  pub refused_text : (x : LineRefusal) → r ≡ Err x → rules_text_of text ≡ Stop (number_of x.refusal) x.line
  unfolding records_read
  refused_text x h = sym (rw h at reads.records)

  pub rules_read : (rs : List Rule) → rules_text_of text ≡ All rs → r ≡ Ok (table_of rs)
  rules_read rs e =
      let a = accepted_lem rules_of r rs (reads.records ∙ e) in
      let s : a.value ≡ table_of (rules_of a.value) = IfOk-at_ok (λ (t : Table). t ≡ table_of (rules_of t)) a.answer reads.slots in
      a.answer ∙ ap Ok s ∙ rw a.records
