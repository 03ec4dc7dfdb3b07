-- What the contracts of the replayer cite.
pub mod Judge
pub mod RunForm
pub mod Progress
