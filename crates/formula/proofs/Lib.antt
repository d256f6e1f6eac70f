-- Laws of the formulas.
pub mod Shapes
pub mod Reaches
pub mod Occurrences
pub mod Agreement
pub mod Letter
