-- What the functions of the crate `feeding` ask of each other.
pub mod Taking
