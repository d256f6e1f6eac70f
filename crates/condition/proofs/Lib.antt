-- The laws of the crate that belong to no one function; those of Laws are for the crates above too.
pub mod Laws
