-- What the crate `stepping` means by its words.
pub mod Known
