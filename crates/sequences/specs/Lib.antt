-- What the crate `sequences` means by its words.
pub mod Ones
pub mod Awaited
pub mod Laws
