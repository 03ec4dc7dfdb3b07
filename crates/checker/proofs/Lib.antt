-- The lemmas of the functions' proofs: what the calls read, what was told them, and what they promise then.
pub mod OpenedTable
pub mod Between
pub mod Filed
pub mod Asked
pub mod Targeted
pub mod RefusalNumbers
pub mod Codes
pub mod Replayed
