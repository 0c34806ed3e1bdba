-- What the crate `walk_lines` means by its words.
pub mod Line
pub mod Put
