-- The laws of cycle texts, for this crate and those above it.
pub mod Lines
pub mod Turns
pub mod Accepted
pub mod RoundTrips
pub mod Lengths
pub mod Vectors
