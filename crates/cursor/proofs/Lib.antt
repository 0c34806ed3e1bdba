-- The laws of a move past a run and of a block, over any set of octets, of a look at one octet, and of what a bare value holds.
pub mod RunSoFar
pub mod AllInBlock
pub mod BareRun
