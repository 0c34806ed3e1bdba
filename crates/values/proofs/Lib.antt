-- Laws of values.
pub mod Meant
pub mod Values
