-- Laws of the phases.
pub mod Steps
pub mod SpotCases
