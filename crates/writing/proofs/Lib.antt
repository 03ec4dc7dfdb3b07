-- The theorems about files from the writer's side.
pub mod ColumnDigits
pub mod ColumnNumbers
pub mod FileBytes
pub mod Injective
pub mod Reading
pub mod Selected
pub mod FormFilling
pub mod Formed
pub mod Canonical
pub mod Accepting
pub mod LinesTaken
pub mod Written
pub mod WrittenQuestions
pub mod Said
pub mod Sample
