-- The lemmas of the reader. For later crates: Shape and Legal (what a form that is read satisfies), WellFormed, Outcomes.
pub mod Bounds
pub mod TableOutcomes
pub mod Accepted
pub mod Shape
pub mod Keeping
pub mod LegalForms
pub mod Present
pub mod WellRead
