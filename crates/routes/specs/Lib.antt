-- What the crate `routes` means by its words.
pub mod Laid
