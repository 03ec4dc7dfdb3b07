-- The theorems on what is printed, and the lemmas of the functions' proofs.
pub mod Finding
pub mod Sized
pub mod RunJudged
pub mod SampleRun
