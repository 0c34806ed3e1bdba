-- What the crate `link_lines` means by its words.
pub mod Held
pub mod Link
pub mod Line
