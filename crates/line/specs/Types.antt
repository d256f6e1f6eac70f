-- The declared types, under one name each: first those of the crates below.
pub use Rattle.declare.specs.Types.{Reading}
pub use Rattle.declare.specs.declared.Refusal.{Refusal}
pub use Rattle.number.specs.declared.Reader.{Reader}
pub use Rattle.number.specs.declared.Reader.TheVariants.{Empty}
pub use Rattle.number.specs.declared.Fault.{Fault}
pub use Rattle.number.specs.declared.Fault.TheVariants.{Form, Range}
pub use Rattle.line.specs.declared.Line.{Line}
pub use Rattle.line.specs.declared.Field.{Field}
pub use Rattle.line.specs.declared.LineRefusal.{LineRefusal}
pub use Rattle.line.specs.declared.LineScan.{LineScan}
