-- What the crate `resolution` means by its words.
pub mod Dots
pub mod Resolve
pub mod Segments
pub mod Walking
pub mod Laws
pub mod Examples
