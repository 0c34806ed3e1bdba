-- Laws about slots, for other crates to cite.
pub mod Told
