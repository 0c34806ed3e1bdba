-- What the proofs share.
pub mod Tested
