-- What the crate `target_steps` means by its words.
pub mod Stepped
