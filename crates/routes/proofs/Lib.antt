-- The laws of the crate `routes`.
pub mod Laying
pub mod InOrder
