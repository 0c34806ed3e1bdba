-- What the proofs share.
pub mod Anchored
