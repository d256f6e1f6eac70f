-- The laws of the store, for the crates above it.
pub mod Places
pub mod Changes
pub mod Same
pub mod Counts
pub mod Counting
