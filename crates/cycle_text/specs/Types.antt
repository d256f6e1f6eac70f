-- The declared types, under one name each: first those of the crates below.
pub use Rattle.declare.specs.Types.{Reading}
pub use Rattle.declare.specs.declared.Event.{Event}
pub use Rattle.declare.specs.declared.Refusal.{Refusal}
pub use Rattle.declare.specs.declared.Refusal.TheVariants.{TimeFalls, TooMany}
pub use Rattle.line.specs.declared.LineRefusal.{LineRefusal}
pub use Rattle.cycle_text.specs.declared.Events.{Events}
