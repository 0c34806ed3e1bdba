-- What the crate `measuring` means by its words.
pub mod Measured
