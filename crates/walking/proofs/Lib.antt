-- The laws that the proofs of `walking` cite.
pub mod Asked
