-- The number and the values that each case of an answer stands for, and the outcome that such numbers tell.
pub mod Refusal
pub mod Read
pub mod Search
pub mod Context
pub mod Length
pub mod Feed
pub mod Walk
