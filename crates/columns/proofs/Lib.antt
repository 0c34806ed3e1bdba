-- The laws that the proofs of `columns` cite.
pub mod Columns
pub mod Decimal
pub mod Fewest
