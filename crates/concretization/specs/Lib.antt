-- What the contracts of the smallest moves, and of runs along a path, cite.
pub mod Parameters
pub mod SmallestMove
pub mod RunLines
pub mod PathRuns
