-- What the crate `pack_lines` means by its words.
pub mod Lines
