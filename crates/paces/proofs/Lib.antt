-- Laws of paces.
pub mod FromZero
