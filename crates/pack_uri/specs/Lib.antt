-- What the crate `pack_uri` means by its words.
pub mod Uri
