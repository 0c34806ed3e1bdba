-- What the crate `utf8` means by its words.
pub mod Sequences
pub mod Numbers
pub mod Laws
