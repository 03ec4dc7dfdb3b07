-- The lemmas of transitions over slots.
pub mod FormRows
pub mod Encoding
pub mod Forms
pub mod TermValues
pub mod ClassValues
pub mod KindTable
pub mod LentNumbers
pub mod QuestionRows
pub mod Accessors
pub mod Ranges
