-- The laws of catalogues and walks.
pub mod NoLf
pub mod Lines
pub mod Packing
pub mod OneCatalogue
pub mod FirstLine
pub mod Deciding
pub mod Decided
pub mod WalkSettled
pub mod StepEnds
pub mod WalkEnds
pub mod Arrivals
pub mod StepsTaken
pub mod WalkingOn
pub mod Examples
pub mod FoundAgain
