-- How the lines are put into a buffer, how many bytes they have, and what is printed of two texts.
pub mod Lines
pub mod Room
pub mod Texts
pub mod Cases
