-- Demand 2's other side: the logic of document 001, its Table 2, and how the verdicts agree.
pub mod Formula
pub mod Table
pub mod Agreement
