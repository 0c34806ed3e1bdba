-- What the crate `titles` means by its words.
pub mod Plain
