-- The declared types, under one name each: first those of the crates below.
pub use Rattle.declare.specs.declared.Operator.{Operator}
pub use Rattle.declare.specs.declared.Operator.TheVariants.{Equal, NotEqual, Less, AtMost, Greater, AtLeast}
pub use Rattle.declare.specs.declared.Reference.{Reference}
pub use Rattle.declare.specs.declared.Reference.TheVariants.{Constant, Activation}
pub use Rattle.declare.specs.declared.Comparison.{Comparison}
pub use Rattle.declare.specs.declared.Condition.{Condition}
pub use Rattle.declare.specs.Types.{End}
pub use Rattle.declare.specs.declared.Window.{Window}
pub use Rattle.declare.specs.declared.Rule.{Rule}
pub use Rattle.declare.specs.declared.Table.{Table}
pub use Rattle.declare.specs.declared.Refusal.{Refusal}
pub use Rattle.number.specs.declared.Reader.{Reader}
pub use Rattle.number.specs.declared.Fault.{Fault}
pub use Rattle.number.specs.declared.Fault.TheVariants.{Form, Range}
pub use Rattle.line.specs.declared.Field.{Field}
pub use Rattle.line.specs.declared.LineRefusal.{LineRefusal}
