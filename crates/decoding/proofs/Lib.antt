-- Laws of decoding in place.
pub mod BehindFront
pub mod Measuring
pub mod Judging
