-- Up to four of a kind.
use Rattle.std.specs.Prelude.{List, take}
use Rattle.condition.specs.declared.four.Four.{Four}

-- those in use
abbrev pub used : {T : Type 0} → Four T → List T
used f = take f.count f.items
