-- What the functions of the crate `filling` ask and promise.
pub mod Filling
