-- The laws that the proofs of `pack_lines` cite.
pub mod Cutting
pub mod LineTold
