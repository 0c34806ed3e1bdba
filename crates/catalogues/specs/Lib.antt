-- Catalogues of packs, steps from pack to pack, and walks: what the walk's entry answers, and what is proved of it.
pub mod Packs
pub mod Steps
pub mod Walks
pub mod Outcome
pub mod Laws
pub mod Examples
