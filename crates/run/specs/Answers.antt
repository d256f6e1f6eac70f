-- The answers of the code, in document 01's numbers.
use Rattle.std.specs.Prelude.{Result, Ok, Err}
use Rattle.declare.specs.declared.Refusal.{Refusal}
use Rattle.declare.specs.Refusals.{number_of}
use Rattle.declare.specs.Answers.{Answer, accepted, refused}
use Rattle.run.specs.declared.Run.{Run}
use Rattle.run.specs.declared.Step.{Step}

-- of start, take, notice and close: the run that they are accepted with, or the refusal
unfoldable pub run_answer : Run → Result (Unit {0}) Refusal → Answer Run
run_answer run (Ok done) = accepted run
run_answer run (Err cause) = refused (number_of cause)

abbrev pub step_answer : Step → Answer Run
step_answer s = run_answer s.run s.outcome
