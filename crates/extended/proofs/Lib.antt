-- The laws of extended values, for other crates to cite.
pub mod Given
pub mod Fronts
pub mod Exact
pub mod Rows
