-- Laws of the written form, a value and a record at a time.
pub mod EscapedLengths
pub mod SpanLengths
pub mod ValueLengths
pub mod DroppedUpTo
pub mod TokensUpTo
pub mod LeftToWrite
pub mod GoodRecords
