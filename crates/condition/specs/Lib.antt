-- A rule bound to one activation.
pub mod Four
pub mod Bound
