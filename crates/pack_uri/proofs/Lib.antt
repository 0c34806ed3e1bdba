-- The laws that the proofs of `pack_uri` cite.
pub mod ByLine
