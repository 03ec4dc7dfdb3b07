-- What contracts say of arrays, of buffers and of searches.
pub mod Arrays
pub mod Filling
pub mod Searches
