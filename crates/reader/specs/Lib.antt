-- What the contracts of the reader cite. TableRules, Table and TableReply are to be believed; TableRead is not.
pub mod TableRules
pub mod Table
pub mod TableReply
pub mod TableRead
