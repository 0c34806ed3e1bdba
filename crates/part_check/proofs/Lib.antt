-- What the proofs share: answers that decide claims, tokens, wider values, and the inside of quoted strings.
pub mod Deciding
pub mod Tokens
pub mod WiderParts
pub mod PairTold
pub mod InsideUpTo
