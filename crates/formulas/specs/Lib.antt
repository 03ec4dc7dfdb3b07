-- What the contracts of the formulas' sets cite.
pub mod RowRules
