-- Refused if the buffer is shorter; else the text has room, and stands in front.
use Rattle.std.proofs.Common.{refl, rules}
use Rattle.buffer.proofs.Writes.{too_short, has_room}
use Rattle.buffer.proofs.write.Goals as goal

pub returns-then-out-text : goal.returns-then-out-text
returns-then-out-text c = too_short _ _ c.if-out-text.true

pub returns : goal.returns
returns c =
    has_room _ _ _ _ c.if-out-text.false refl (let h = c.copy_from_slice.ensures in search rules)
