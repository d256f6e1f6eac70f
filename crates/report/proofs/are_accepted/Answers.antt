-- By the reader's answer.
use mathlib.Core.Path.{◌≡◌, refl, ap, ◌∙◌}
use mathlib.Core.List.{List}
use Rattle.std.specs.Prelude.{Result, Ok, Err, is_ok}
use Rattle.line.specs.declared.LineRefusal.{LineRefusal}
use Rattle.line.specs.Texts.{is_all, records_read}
use Rattle.report.proofs.are_accepted.Goals as goal

all_if_ok : {A B : Type 0} (list : B → List A) (r : Result B LineRefusal) → is_ok r ≡ is_all (records_read list r)
unfolding records_read is_all
all_if_ok list (Ok b) = refl
all_if_ok list (Err cause) = refl

pub returns : goal.returns
returns c = c.is_ok.ensures.value ∙ all_if_ok _ c.read_rules.result ∙ ap is_all c.read_rules.ensures.records
