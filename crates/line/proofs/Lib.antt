-- The laws of lines, fields and texts, for this crate and those above it.
pub mod Fields
pub mod Lines
pub mod Joined
pub mod Values
pub mod Texts
pub mod Turns
pub mod Lengths
pub mod Vectors
