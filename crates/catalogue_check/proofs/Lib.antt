-- The laws that the proofs of `catalogue_check` cite.
pub mod Adding
pub mod LineByLine
