-- What the crate `walking` means by its words.
pub mod Asked
