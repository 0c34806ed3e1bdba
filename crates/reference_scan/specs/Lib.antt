-- What the crate `reference_scan` means by its words.
pub mod Passed
pub mod Comes
pub mod Common
pub mod Judges
