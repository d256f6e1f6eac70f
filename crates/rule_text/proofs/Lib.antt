-- The laws of rules texts, for this crate and those above it.
pub mod Comparisons
pub mod ComparisonTexts
pub mod Conditions
pub mod ConditionTexts
pub mod Lines
pub mod Turns
pub mod Accepted
pub mod Canonical
pub mod RoundTrips
pub mod Lengths
pub mod Vectors
