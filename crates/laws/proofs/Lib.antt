-- The proofs of the laws over all the definitions.
pub mod References
pub mod Stopped
pub mod Checked
pub mod Rows
pub mod Titles
pub mod Beside
pub mod Front
pub mod Inside
pub mod Behind
pub mod Broken
pub mod Answers
pub mod HandedRight
pub mod Feedings
pub mod TargetsTold
pub mod OneAnswer
pub mod FinishedAgain
