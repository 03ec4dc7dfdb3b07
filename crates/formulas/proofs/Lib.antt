-- Laws that the proofs of the functions cite.
pub mod PackedSets
pub mod WordSets
pub mod Tables
pub mod RowSets
pub mod Atoms
