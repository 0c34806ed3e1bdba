-- Proofs of the crate `resolution`.
pub mod Appended
pub mod Segment
pub mod Keeping
pub mod First
pub mod Cutting
pub mod Next
pub mod FromTheLeft
pub mod Agreeing
pub mod SegmentLists
pub mod NoneLeft
pub mod Unchanged
pub mod Climbing
pub mod Itself
pub mod OneResult
