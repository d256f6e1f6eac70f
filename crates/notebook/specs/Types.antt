-- The declared types, under one name each.
pub use Rattle.declare.specs.declared.Refusal.{Refusal}
pub use Rattle.line.specs.declared.LineRefusal.{LineRefusal}
pub use Rattle.notebook.specs.declared.Text.{Text}
pub use Rattle.notebook.specs.declared.Text.TheVariants.{Rules, Cycle}
pub use Rattle.notebook.specs.declared.TextRefusal.{TextRefusal}
pub use Rattle.notebook.specs.declared.Notebook.{Notebook}
