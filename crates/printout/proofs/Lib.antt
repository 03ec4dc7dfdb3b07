-- What the proofs of the printouts share.
pub mod PutLines
pub mod MomentSlots
pub mod Refusals
pub mod ReadBack
pub mod PrintoutMeaning
