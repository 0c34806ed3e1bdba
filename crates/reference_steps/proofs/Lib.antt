-- The machine's exactness, and laws about its runs.
pub mod Alike
pub mod Exact
