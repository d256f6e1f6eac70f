-- The laws of the notebook.
pub mod Tables
pub mod Replies
pub mod Read
pub mod Words
