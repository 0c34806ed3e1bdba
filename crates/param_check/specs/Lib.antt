-- What the crate `param_check` means by its words.
pub mod Params
