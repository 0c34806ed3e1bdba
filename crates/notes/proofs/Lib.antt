-- Laws of notes.
pub mod InOrder
pub mod Mapped
pub mod Copied
