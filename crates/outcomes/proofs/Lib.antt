-- Each outcome settles everything: for every entry there is one outcome, and no other.
pub mod Cases
pub mod Options
pub mod First
pub mod InEdition
pub mod Usable
pub mod ReadSettled
pub mod SearchSettled
pub mod ContextSettled
pub mod CopySettled
pub mod WriteSettled
pub mod DecodeSettled
pub mod TitleSettled
pub mod ResolveSettled
pub mod ResolvedContextSettled
pub mod Refusing
pub mod FeedSettled
