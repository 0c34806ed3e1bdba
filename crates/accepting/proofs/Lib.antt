-- The laws that the proofs of `accepting` cite.
pub mod Accepting
