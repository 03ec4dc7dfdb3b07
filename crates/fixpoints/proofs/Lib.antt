-- The theorems that other crates cite.
pub mod NodeSets
pub mod Picks
pub mod QueueSearch
pub mod EndlessSearch
pub mod FirstRound
