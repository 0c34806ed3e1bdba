-- What the functions of the crate `scan_parts` promise.
pub mod Stands
pub mod Parsed
pub mod Scanned
