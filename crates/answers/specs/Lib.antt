-- What the contracts of a question's rows and answer cite.
pub mod Rows
pub mod RowBuffers
pub mod Memory
