-- What the crate `lines` means by its words.
pub mod Line
pub mod FinalLf
