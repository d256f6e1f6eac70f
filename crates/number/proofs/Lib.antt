-- The laws of numbers, for this crate and those above it.
pub mod Results
pub mod Digits
pub mod Answers
pub mod Once
pub mod Written
pub mod Lengths
pub mod Quoted
pub mod Vectors
