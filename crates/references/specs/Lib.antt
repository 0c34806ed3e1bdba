-- What the crate `references` means by its words.
pub mod Octets
pub mod AppendixA
pub mod Components
pub mod Laws
pub mod Rows
pub mod Addresses
pub mod Examples
