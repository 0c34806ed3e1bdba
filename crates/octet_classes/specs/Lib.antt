-- What the crate `octet_classes` means by its words.
pub mod Sets
pub mod Classes
