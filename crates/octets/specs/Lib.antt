-- What the crate `octets` means by its words.
pub mod Text
pub mod Sets
pub mod Editions
pub mod Fold
pub mod Laws
