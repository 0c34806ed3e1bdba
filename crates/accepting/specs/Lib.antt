-- What the crate `accepting` means by its words.
pub mod Accepted
