-- The laws of UTF-8, for other crates to cite.
pub mod Rows
pub mod Forms
pub mod Encoded
pub mod Formed
pub mod OneList
pub mod EncodesNumbers
