-- What the functions of the crate `known` ask and promise.
pub mod Known
