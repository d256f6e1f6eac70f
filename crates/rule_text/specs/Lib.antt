-- Rules texts: what one holds, from a comparison's bytes to the whole text; how rules are written
-- as one; and the reader's answers.
pub mod Types
pub mod Comparisons
pub mod Conditions
pub mod Rules
pub mod Written
pub mod Reads
