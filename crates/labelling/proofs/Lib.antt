-- The laws of the identifiers that have a label, and the lemmas of the functions' proofs.
pub mod Noted
pub mod NotedTurns
