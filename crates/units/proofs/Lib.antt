-- Laws of what is read in place.
pub mod Looking
pub mod Giving
pub mod Digits
