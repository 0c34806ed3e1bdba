-- What the proofs share.
pub mod TableLeft
