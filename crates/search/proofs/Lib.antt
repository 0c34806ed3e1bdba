-- Laws of the search.
pub mod Searching
