-- What the contracts of printing in columns cite.
pub mod Widths
pub mod Columns
