-- The laws that the proofs of `walk_listing` cite.
pub mod Telling
