-- The laws of the crate `dot_walk`.
pub mod Steps
pub mod Leftwards
pub mod StoredBefore
pub mod Writing
