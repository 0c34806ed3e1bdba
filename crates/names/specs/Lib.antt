-- What the crate `names` means by its words.
pub mod Remembers
