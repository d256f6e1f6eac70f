-- The proofs of the demands, of the cards, and of what `report` prints.
pub mod Chains
pub mod Texts
pub mod Fields
pub mod Lines
pub mod Standings
pub mod Early
pub mod Demand1
pub mod PrintBack
pub mod Demand2
pub mod Demand3
mod Places
mod Reports
mod PrintedLines
mod RightLines
pub mod Printed
