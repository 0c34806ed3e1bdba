-- The laws that the proofs of `link_lines` cite.
pub mod Written
pub mod LinkOutcome
pub mod AnswerLine
