-- What the crate `runs` means by its words.
pub mod Runs
