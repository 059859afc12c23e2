-- What the proofs of the rows share.
mod LeaderLemmas
pub mod Stacks
