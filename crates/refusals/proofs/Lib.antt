-- What the order of refusals says of inputs that are accepted and of those that are turned back.
pub mod Composed
pub mod Verdicts
