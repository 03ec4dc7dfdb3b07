-- What the contracts of forms cite.
pub mod TableForm
pub mod FormAutomaton
pub mod Readable
pub mod ClassLabels
pub mod Slots
pub mod QuestionForm
pub mod Shapes
