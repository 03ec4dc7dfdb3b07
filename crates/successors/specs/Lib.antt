-- What the contracts of the successors cite.
pub mod Plans
pub mod Chains
pub mod Spreading
