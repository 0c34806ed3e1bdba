-- What the crate `leading_dots` means by its words.
pub mod Leads
