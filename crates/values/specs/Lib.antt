-- What the crate `values` means by its words.
pub mod Rest
