-- What the contracts of the printed run cite.
pub mod Printed
