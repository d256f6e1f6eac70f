-- Lines and fields of a text, what a field holds, and a text's records line by line.
pub mod Types
pub mod Fields
pub mod Values
pub mod Texts
pub mod Scans
