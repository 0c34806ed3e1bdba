-- The laws that the proofs of `resolve_listing` cite.
pub mod TargetsHeld
