-- Laws about octets and steps that the code of each state shares.
pub mod Has
pub mod Moves
pub mod Past
