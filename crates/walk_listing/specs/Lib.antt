-- What the crate `walk_listing` means by its words.
pub mod Told
