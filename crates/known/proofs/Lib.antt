-- Laws of parts that are known to be derived.
pub mod DerivedGoesOn
pub mod TargetCloses
pub mod QuoteCloses
pub mod KnownIsParsed
