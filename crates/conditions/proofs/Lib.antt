-- Lemmas and theorems about start conditions.
pub mod StartsExact
pub mod Located
