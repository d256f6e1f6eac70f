pub mod Causes
pub mod Tally
pub mod Cases
