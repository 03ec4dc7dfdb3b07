-- What the contracts of start and target conditions cite.
pub mod Startable
pub mod Values
