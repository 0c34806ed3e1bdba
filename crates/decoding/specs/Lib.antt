-- What the crate `decoding` means by its words.
pub mod Sight
pub mod Measured
pub mod Judged
