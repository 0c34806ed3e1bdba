-- Laws of putting octets into a buffer.
pub mod PutUpTo
pub mod Parts
pub mod Escapes
