-- What is known of numbers in columns, and of bytes written one after another.
pub mod Columns
