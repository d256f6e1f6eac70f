-- What is put into a lent buffer, and what a call that writes a text there answers and leaves.
pub mod Puts
pub mod Writes
pub mod Cases
