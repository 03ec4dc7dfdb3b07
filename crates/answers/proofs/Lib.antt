-- Laws that the proofs of the functions cite.
pub mod Buffer
pub mod AnswerRows
pub mod MemorySizes
