-- Laws of runs, of the machine between places, and of blocks.
pub mod Runs
pub mod Between
pub mod InBlocks
pub mod Closes
pub mod Commons
pub mod Over
pub mod Openings
pub mod Hosting
pub mod Triples
