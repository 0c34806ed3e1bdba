-- The laws of references.
pub mod SetNumbers
pub mod SetOctets
pub mod Clear
pub mod Cuts
pub mod Begins
pub mod Apart
pub mod OneSplit
pub mod Parted
pub mod Splitting
pub mod Whole
pub mod Rows
