-- What the proofs on a round share.
pub mod RoundParts
