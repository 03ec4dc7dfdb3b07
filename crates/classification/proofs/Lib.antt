-- The lemmas of the calls on contents, classes and matrices.
pub mod Passed
pub mod ClassMeaning
pub mod ClassReplies
