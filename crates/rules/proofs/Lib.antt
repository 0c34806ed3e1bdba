-- The laws of rules.
pub mod Lefts
pub mod Search
