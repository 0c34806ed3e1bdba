-- What the crate `named` means by its words.
pub mod First
