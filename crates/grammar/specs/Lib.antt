-- What other crates cite of the grammar. Grammar is to be believed; Parser is how the code reads, and is not.
pub mod Grammar
pub mod Parser
