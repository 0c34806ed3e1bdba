-- What the crate `reference_steps` means by its words.
pub mod Machine
pub mod Laws
