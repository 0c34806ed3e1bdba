-- The laws of the crate `resolved`.
pub mod LinkContext
