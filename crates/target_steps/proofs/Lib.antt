-- The laws that the proofs of `target_steps` cite.
pub mod Numbers
pub mod Resolving
pub mod Leading
