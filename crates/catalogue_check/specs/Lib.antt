-- What the crate `catalogue_check` means by its words.
pub mod Checked
