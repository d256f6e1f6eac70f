-- What is printed of two texts, by the notebook's outcome.
use mathlib.Core.Path.{◌≡◌, sym, ap, ◌∙◌}
use mathlib.Core.Bool.{true}
use mathlib.Core.List.{List}
use Prim.Native.Nat.{ℕ, ◌≤◌, ◌<◌}
use native.Mathlib.Omega.{arith}
use lib.ListN.{length}
use Rattle.std.specs.Prelude.{Ok, Err}
use Rattle.declare.specs.Refusals.{number_of}
use Rattle.run.specs.Records.{valid_run}
use Rattle.line.specs.Texts.{written_line}
use Rattle.line.proofs.Texts.{written_one}
use Rattle.notebook.specs.declared.TextRefusal.{TextRefusal}
use Rattle.notebook.specs.declared.Notebook.{Notebook}
use Rattle.notebook.specs.Notebook.{read_as, not_read, outcome_reply, notebook_reply, notebook_of}
use Rattle.notebook.proofs.Read.{read_valid, refused_at}
use Rattle.printing.specs.Lines.{refused_line, line_fields}
use Rattle.printing.specs.Report.{report_of, word_of, reply_lines, printed_lines, printed_of}
use Rattle.printing.specs.Printing.{printed_bytes}
use Rattle.printing.proofs.Room.{refused_within, report_within}

module _ (rules cycle : List ℕ) (read : Notebook) (replies : notebook_reply read ≡ notebook_of rules cycle) where
  module _ (closed : read.outcome ≡ Ok tt) where
    closed_reply : notebook_of rules cycle ≡ read_as read.run
    unfolding notebook_reply outcome_reply
    closed_reply = sym replies ∙ ap (outcome_reply read.run) closed

    pub closed_valid : valid_run read.run ≡ true
    closed_valid = read_valid rules cycle read.run closed_reply

    pub closed_printed : report_of read.run ≡ printed_of rules cycle
    unfolding report_of printed_of printed_lines reply_lines
    closed_printed = rw closed_reply

    pub closed_few : length (printed_of rules cycle) ≤ printed_bytes
    closed_few = rw (← closed_printed) (report_within read.run closed_valid).most

  module _ (cause : TextRefusal) (refused : read.outcome ≡ Err cause) where
    pub refused_reply : notebook_of rules cycle ≡ not_read cause.text (number_of cause.refusal) cause.line
    unfolding notebook_reply outcome_reply
    refused_reply = sym replies ∙ ap (outcome_reply read.run) refused

    pub refused_printed : written_line line_fields (refused_line (word_of cause.text) (number_of cause.refusal) cause.line) ≡ printed_of rules cycle
    unfolding printed_of printed_lines reply_lines
    refused_printed = rw refused_reply (sym (written_one line_fields _))

    pub refused_few : number_of cause.refusal < 256 → length (printed_of rules cycle) ≤ printed_bytes
    refused_few h =
        let l = refused_at rules cycle cause.text (number_of cause.refusal) cause.line refused_reply in
        rw (← refused_printed) (omega (arith, (refused_within cause.text (number_of cause.refusal) cause.line (omega arith) (omega arith)).most))
