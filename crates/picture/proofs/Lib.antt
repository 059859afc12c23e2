-- What the proofs of pictures share.
pub mod FrameLemmas
pub mod NameLemmas
