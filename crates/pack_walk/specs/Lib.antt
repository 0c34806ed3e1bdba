-- What the crate `pack_walk` means by its words.
pub mod Walked
