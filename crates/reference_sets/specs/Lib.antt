-- What the crate `reference_sets` means by its words.
pub mod Sets
pub mod Runs
