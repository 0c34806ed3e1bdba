-- What the crate `resolved` means by its words.
pub mod OnBase
