-- What the contracts cite.
pub mod Listed
pub mod Noted
