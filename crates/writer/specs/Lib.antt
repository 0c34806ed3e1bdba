-- What the crate `writer` means by its words.
pub mod Related
pub mod Room
