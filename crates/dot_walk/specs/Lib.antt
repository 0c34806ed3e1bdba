-- What the crate `dot_walk` means by its words.
pub mod Put
