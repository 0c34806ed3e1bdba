-- What the crate `following` means by its words.
pub mod Followed
