-- Laws of runs.
pub mod Words
pub mod Skipping
pub mod Matching
