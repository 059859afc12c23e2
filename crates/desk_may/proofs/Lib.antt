-- What the proofs of the lines of an operating round share.
pub mod OperatingLemmas
