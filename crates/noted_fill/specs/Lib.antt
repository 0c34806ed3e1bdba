-- What the crate `noted_fill` asks.
pub mod HeaderNoted
