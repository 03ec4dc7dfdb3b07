-- What the contracts of the calls on contents, classes and matrices cite.
pub mod ClassTests
pub mod ClassCalls
pub mod ClassClaims
