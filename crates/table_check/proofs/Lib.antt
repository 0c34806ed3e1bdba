-- What the proofs share: the loop over the links, what good tables are made of, a table's state by the number of an edition, and the
-- outcomes of entries that follow from it.
mod OfLinks
mod GoodParts
mod StatesAsked
pub mod EntryOutcomes
pub mod Judged
