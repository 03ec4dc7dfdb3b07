-- The lemmas and theorems of the replayer.
pub mod Verdicts
pub mod Flat
pub mod Turns
pub mod StepSlots
pub mod StepWalk
