-- Laws of the components as places.
pub mod Ends
pub mod Finding
pub mod Marks
pub mod CutOff
pub mod CutSchemes
pub mod CutMarked
pub mod Whole
