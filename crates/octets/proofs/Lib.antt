-- What the proofs share. Laws about the definitions, for other crates to cite, are in Laws and Further.
pub mod Listed
pub mod Octets
pub mod Laws
pub mod Further
pub mod Low
pub mod Pairs
