-- Lemmas for walks by hand, which say nothing of any crate.
pub mod Lent
pub mod Walk
