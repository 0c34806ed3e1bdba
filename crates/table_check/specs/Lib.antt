-- What the crate `table_check` means by its words.
pub mod Links
pub mod State
