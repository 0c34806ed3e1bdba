-- What the crate `reference_literal` means by its words.
pub mod Groups
