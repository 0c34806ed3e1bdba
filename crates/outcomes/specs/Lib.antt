-- What each entry answers, for every input: its numbers, and what every lent slot and octet holds afterwards.
pub mod Number
pub mod InEdition
pub mod Usable
pub mod Kept
pub mod Read
pub mod Search
pub mod Context
pub mod Copy
pub mod Write
pub mod Title
pub mod Decode
pub mod Resolve
pub mod ResolvedContext
pub mod Feed
pub mod Feeding
pub mod Laws
