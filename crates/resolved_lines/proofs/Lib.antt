-- The laws that the proofs of `resolved_lines` cite.
pub mod Digits
pub mod LinePut
