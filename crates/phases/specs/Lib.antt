-- What the crate `phases` means by its words.
pub mod Steps
pub mod Spots
