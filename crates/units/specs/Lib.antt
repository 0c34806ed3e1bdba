-- What the crate `units` means by its words.
pub mod Seen
pub mod Units
