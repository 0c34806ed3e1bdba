-- What the crate `rules` means by its words.
pub mod Rule
pub mod Left
pub mod Laws
