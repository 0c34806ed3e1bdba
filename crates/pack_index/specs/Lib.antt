-- What the crate `pack_index` means by its words.
pub mod Index
