-- The laws of the crate `resolving`.
pub mod Fitting
pub mod Resolving
