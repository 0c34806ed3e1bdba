-- What the crate `blocks` means by its words.
pub mod Others
