-- What the crate `resolved_lines` means by its words.
pub mod ResolvedLine
