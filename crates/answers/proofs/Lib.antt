-- Laws about answers, for other crates to cite.
pub mod Refusals
