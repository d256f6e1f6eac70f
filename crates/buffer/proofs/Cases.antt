-- The cases, by computation.
use mathlib.Core.Path.{refl}
use Rattle.declare.specs.Refusals.{number_of}
use Rattle.declare.specs.Answers.{◌>>◌, require, answer_of}
use Rattle.buffer.specs.Puts.{next, place_after, stored}
use Rattle.buffer.specs.Writes.{write_of, buffer_after}
use Rattle.buffer.specs.Cases.{answers, left, numbered, buffers, places, Checked}

pub checked : Checked
unfolding answers left numbered buffers places write_of buffer_after answer_of next place_after stored number_of ◌>>◌ require
checked =
    record { of_answers = refl; of_left = refl; of_numbered = refl; of_buffers = refl; of_places = refl }
