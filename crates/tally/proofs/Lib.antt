-- The laws of the tally.
pub mod Sums
pub mod Cases
