-- The laws that the proofs of `stepping` cite.
pub mod OnPack
pub mod FromPack
