-- Laws about octets stored one behind another, of the part up to a text's end, and of links and parameters counted on, for other
-- crates to cite.
pub mod Stores
pub mod Putting
pub mod UpTo
pub mod Counted
