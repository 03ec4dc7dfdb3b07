-- Fixpoints by rounds, and the searches that give the same sets.
pub mod Rounds
pub mod Picks
pub mod QueueSearch
pub mod EndlessSearch
