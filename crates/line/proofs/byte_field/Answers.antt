-- `line::byte_field`: a number up to `high`, which is a byte, is a byte.
use mathlib.Core.Path.{sym, ◌∙◌, ap}
use native.Mathlib.Omega.{arith}
use Rattle.line.specs.Values.{natural_answer}
use Rattle.line.proofs.Values.{number_read}
use Rattle.line.proofs.byte_field.Goals as goal

pub map-requires : goal.map-requires
map-requires c = λ x h a b.
    let f = c.number_field-field.ensures.answer_value in
    omega (arith, c.from.ensures, (number_read 1 _ _ x (sym f ∙ ap natural_answer h)).high)
