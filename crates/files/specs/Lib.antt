-- What the contracts of `files` cite.
pub mod Counts
