-- Document 01's numbers, the reader's steps, and how numbers are written.
pub mod Types
pub mod Number
pub mod Reader
pub mod Written
