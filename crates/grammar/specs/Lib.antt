-- What the crate `grammar` means by its words, in the order in which they build on each other.
pub mod Link
pub mod Grammar
pub mod Targets
pub mod Kept
pub mod Records
pub mod Place
pub mod Join
pub mod Machine
pub mod Laws
