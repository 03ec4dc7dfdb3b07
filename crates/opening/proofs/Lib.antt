-- What holds of a table that is opened.
pub mod LabelsWritten
pub mod Opened
