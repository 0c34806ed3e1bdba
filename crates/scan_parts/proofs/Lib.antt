-- Laws of where the machine stands within a link, and of what its parts are parsed as.
pub mod Standing
pub mod OneOctet
pub mod TargetSoFar
pub mod ReferenceOrNot
pub mod InsideSoFar
pub mod ReadyBehindValue
pub mod ReadyBehindParam
pub mod PassedIsParsed
pub mod PartsScanned
