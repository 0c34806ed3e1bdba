-- What the crate `paces` means by its words.
pub mod Paces
