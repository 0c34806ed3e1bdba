-- What the functions of the crate `scanner` promise.
pub mod Linked
