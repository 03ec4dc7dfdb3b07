-- The laws of the relation that other crates cite, and the lemmas of the functions' proofs.
pub mod SomeEntry
pub mod Labelling
pub mod Ranks
pub mod Marks
pub mod Unnamed
pub mod Levels
pub mod PlanFilling
pub mod Steps
pub mod PatternRoom
pub mod PatternsExact
pub mod Memory
pub mod Placing
