-- What `report` prints, and what the calls that write it promise.
pub mod Lines
pub mod Report
pub mod Printing
pub mod Cases
