-- What the library promises: the three demands, the cards and what `report` prints, each as the
-- type of its theorem.
pub mod Causes
pub mod LineCauses
pub mod Texts
pub mod Demand1
pub mod PrintBack
pub mod Demand2
pub mod Demand3
pub mod Printed
