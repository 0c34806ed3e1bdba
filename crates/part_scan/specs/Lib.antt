-- What the crate `part_scan` promises.
pub mod Moved
pub mod Stepping
