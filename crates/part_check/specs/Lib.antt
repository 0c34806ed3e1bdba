-- What the crate `part_check` means by its words.
pub mod Decides
pub mod Pairs
