-- The lemmas of the reader's proofs, and the theorems that other crates cite.
pub mod StepCodes
pub mod Openings
pub mod Walks
pub mod WholeTexts
pub mod TextMeaning
