-- What the contracts of opening a table cite.
pub mod Opening
pub mod OpenedLabels
