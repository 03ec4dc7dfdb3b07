-- What contracts within the checker cite; the public calls cite crate claims.
pub mod Codes
