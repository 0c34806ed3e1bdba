-- Laws of feeding.
pub mod SpotSteps
pub mod Phases
pub mod PartLed
pub mod Feeding
pub mod Finishing
