pub mod Types
pub mod Notebook
pub mod Words
