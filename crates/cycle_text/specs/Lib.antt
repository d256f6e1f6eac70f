-- Cycle texts: what one holds, and how events are written as one.
pub mod Types
pub mod Cycle
pub mod Written
pub mod Reads
