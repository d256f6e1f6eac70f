-- One byte: set where there is room.
use mathlib.Core.Path.{refl}
use Rattle.buffer.proofs.Puts.{puts_one, puts_full}
use Rattle.buffer.proofs.put.Output.put_byte.Goals as goal

pub returns-then-self : goal.returns-then-self
returns-then-self c = record { same_reference = refl; puts = puts_one _ _ _ c.if-self.true }

pub returns-else-self : goal.returns-else-self
returns-else-self c = record { same_reference = refl; puts = puts_full _ _ _ c.if-self.false }
