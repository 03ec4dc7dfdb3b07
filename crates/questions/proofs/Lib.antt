-- The theorems that other crates cite.
pub mod RowShapes
pub mod QuestionOutcomes
pub mod Fits
