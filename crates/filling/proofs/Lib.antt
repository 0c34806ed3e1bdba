-- Laws of filling.
pub mod PartOfReading
pub mod ParamsWritten
pub mod OneLinkWritten
pub mod LinksWritten
