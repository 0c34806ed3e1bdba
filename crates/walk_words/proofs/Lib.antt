-- The laws that the proofs of `walk_words` cite.
pub mod Reading
pub mod Signs
