-- The laws that other crates cite.
pub mod Arrays
pub mod Searches
