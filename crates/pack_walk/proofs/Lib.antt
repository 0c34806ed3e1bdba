-- The laws that the proofs of `pack_walk` cite.
pub mod Going
