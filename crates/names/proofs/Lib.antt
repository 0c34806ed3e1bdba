-- Laws of names' codes, and of what has been seen; the latter are for other crates to cite.
pub mod Deciding
pub mod Seeing
