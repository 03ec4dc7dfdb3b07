-- The lemmas of the smallest moves and of runs along a path.
pub mod SlotValues
pub mod Tried
pub mod Pool
pub mod ParameterSearch
pub mod SmallestMoves
pub mod Stands
pub mod Pasting
pub mod Nodes
pub mod Moving
pub mod PathTurns
pub mod RunsAlong
