-- What the crate `records` means by its words.
pub mod Slots
