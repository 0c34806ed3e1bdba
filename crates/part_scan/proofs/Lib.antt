-- Laws of scanning a part.
pub mod Leading
pub mod Normals
pub mod OutSteps
pub mod TargetRuns
pub mod Moves
pub mod Stepping
pub mod Starts
