-- Laws of titles.
pub mod PlainTitle
pub mod TitleOf
pub mod Decoding
