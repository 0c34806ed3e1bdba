-- The laws that the proofs of `walk_lines` cite.
pub mod Columns
pub mod AnswerLine
