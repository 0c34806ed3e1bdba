-- Laws of octets without their backslashes.
pub mod Bare
pub mod Passing
pub mod Unescaped
