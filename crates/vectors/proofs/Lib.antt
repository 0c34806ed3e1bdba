-- What the proofs of the crate `vectors` rest on.
pub mod Copied
