-- What the crate `columns` means by its words.
pub mod Decimal
pub mod Line
pub mod LineHolds
