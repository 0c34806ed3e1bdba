-- Laws of filling from notes.
pub mod SmallRecords
pub mod FromNotes
