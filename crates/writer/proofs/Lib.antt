-- Laws of writing a table.
pub mod Relations
pub mod Answers
