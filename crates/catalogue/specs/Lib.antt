-- What the contracts cite.
pub mod FlatCatalogue
pub mod Serving
pub mod Numbers
pub mod MatrixCells
pub mod Listing
