-- What the crate `copy` means by its words.
pub mod Room
