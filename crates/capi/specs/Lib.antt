-- What the numbers that C gets of a context stand for.
pub mod ContextTold
