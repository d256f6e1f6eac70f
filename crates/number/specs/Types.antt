-- The declared types, under one name each.
pub use Rattle.number.specs.declared.Reader.{Reader}
pub use Rattle.number.specs.declared.Reader.TheVariants.{Empty, Minus, Zero, Digits, Malformed}
pub use Rattle.number.specs.declared.Fault.{Fault}
pub use Rattle.number.specs.declared.Fault.TheVariants.{Form, Range}
