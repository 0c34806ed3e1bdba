-- What the crate `routing` means by its words.
pub mod Folders
pub mod Plans
pub mod Routed
