-- The lemmas of the functions' proofs.
pub mod PlanList
pub mod LastBelow
pub mod Blocks
pub mod ChainWalk
pub mod WordLoop
pub mod Values
pub mod Filling
pub mod Written
pub mod Following
