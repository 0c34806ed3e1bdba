-- What the crate `components` means by its words, in the order in which they build on each other.
pub mod Looks
pub mod Steps
pub mod Cuts
