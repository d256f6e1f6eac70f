-- The laws of what is put into a buffer, and of calls that write there.
pub mod Puts
pub mod Lines
pub mod Writes
pub mod Cases
