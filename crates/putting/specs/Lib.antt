-- What the crate `putting` means by its words.
pub mod Spelt
