-- The text of a valid record has room in the local buffer.
pub mod Room
