-- What the contracts of the printouts cite.
pub mod Document
pub mod PrintedLines
pub mod Text
