-- What the crate `context` means by its words.
pub mod Part
