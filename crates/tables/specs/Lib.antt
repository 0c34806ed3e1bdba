-- What the crate `tables` means by its words, in the order in which they build on each other.
pub mod Table
pub mod Good
pub mod Meaning
pub mod Relation
pub mod Written
pub mod Laws
