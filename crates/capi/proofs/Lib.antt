-- What the proofs share.
pub mod WithinSource
