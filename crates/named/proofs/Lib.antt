-- The laws of looking for a parameter by its code, for other crates to cite.
pub mod ByName
pub mod Looking
