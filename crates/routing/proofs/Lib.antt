-- The laws of the crate `routing`.
pub mod Shapes
pub mod TwoTexts
pub mod Folding
pub mod Clean
pub mod Lefts
pub mod Rooting
pub mod Planning
pub mod Laying
