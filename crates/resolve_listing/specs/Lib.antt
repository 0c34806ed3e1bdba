-- What the crate `resolve_listing` means by its words.
pub mod Base
