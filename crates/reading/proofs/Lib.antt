-- Laws of reading.
pub mod ScanToOutcome
