-- What the crate `lent` means by its words.
pub mod Lent
