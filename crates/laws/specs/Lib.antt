-- Statements over all the definitions: the headers that were read by hand, and what entries answer to one another's results.
pub mod Row
pub mod Marked
pub mod Slips
pub mod Older
pub mod References
pub mod Titles
pub mod Answers
pub mod Feedings
pub mod Laws
