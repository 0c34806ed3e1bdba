-- What the crate `listing` means by its words.
pub mod Held
