-- What the crate `walk_words` means by its words.
pub mod Words
