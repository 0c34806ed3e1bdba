-- What the crate `kinds` means by its words.
pub mod Put
