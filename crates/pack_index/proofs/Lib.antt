-- The laws that the proofs of `pack_index` cite.
pub mod SameEnds
pub mod Finding
pub mod Stored
