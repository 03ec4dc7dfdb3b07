-- What the contracts of the reader of texts cite. TextRefusals is to be believed; the others have the shape of the code and are not.
pub mod TextRefusals
pub mod RowsPut
pub mod Steps
pub mod Descent
pub mod Texts
