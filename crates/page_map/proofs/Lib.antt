-- What the proofs of a map share.
pub mod ClosedLemmas
pub mod NewsLemmas
pub mod TileLemmas
