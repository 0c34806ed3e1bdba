-- What the crate `shape` means by its words.
pub mod Shape
pub mod Forms
