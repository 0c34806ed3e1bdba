-- The laws of tables, meanings and the written form.
pub mod Texts
pub mod Spelt
pub mod ReferenceText
pub mod Queries
pub mod Back
pub mod ReadBack
pub mod Filled
pub mod FromReading
pub mod Decide
pub mod Forms
pub mod GoodAlike
pub mod InGood
