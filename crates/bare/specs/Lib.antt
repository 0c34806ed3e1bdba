-- What the crate `bare` means by its words.
pub mod Bare
