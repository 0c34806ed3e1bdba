-- What the crate `notes` means by its words.
pub mod Noted
