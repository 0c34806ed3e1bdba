-- The laws of the crate `leading_dots`.
pub mod Trimming
pub mod Reading
