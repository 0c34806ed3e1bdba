-- What the crate `cursor` means by its words.
pub mod Passed
