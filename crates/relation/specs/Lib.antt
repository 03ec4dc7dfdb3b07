-- What the contracts of the relation cite.
pub mod PatternScan
pub mod Marks
pub mod Plans
pub mod StepRows
