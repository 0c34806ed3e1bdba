-- Laws of value copy.
pub mod InRoom
pub mod Copying
