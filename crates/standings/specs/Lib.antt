-- Where a run's standings stand, and how they are counted.
pub mod Places
pub mod Totals
