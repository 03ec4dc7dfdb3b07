-- The theorems that other crates cite, and the lemmas of the functions' proofs.
pub mod Tested
pub mod Copying
pub mod Complete
pub mod Narrowed
pub mod LabelRows
pub mod Ranked
pub mod MatrixRows
pub mod Listed
