-- The laws of judging octet by octet, for other crates to cite.
pub mod ByLength
pub mod Behind
pub mod AsRule
pub mod Passed
pub mod Formed
pub mod Exact
pub mod OnesTell
