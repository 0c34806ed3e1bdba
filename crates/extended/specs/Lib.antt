-- What the crate `extended` means by its words.
pub mod Value
pub mod Decoded
pub mod Rows
pub mod Laws
